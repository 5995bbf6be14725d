use Rattle.us_tokens.proofs.Back.{lexed-decimal}
use Rattle.us_tokens.proofs.laws.number_law.Goals as goal

pub returns : goal.returns
returns g c = lexed-decimal g.K.Kind.language
