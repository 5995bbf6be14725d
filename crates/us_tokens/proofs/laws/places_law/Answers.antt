use Rattle.us_tokens.proofs.Places.{lexed_placed}
use Rattle.us_tokens.proofs.laws.places_law.Goals as goal

pub returns : goal.returns
returns g c = lexed_placed g.K.Kind.language
