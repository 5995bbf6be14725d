use Rattle.us_tokens.proofs.Back.{lexed-word}
use Rattle.us_tokens.proofs.laws.word_law.Goals as goal

pub returns : goal.returns
returns g c = λ w rest k first all is stop. lexed-word g.K.Kind.language w k rest record { first = first; all = all } is stop
