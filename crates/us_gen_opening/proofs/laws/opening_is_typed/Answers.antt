use Rattle.us_gen_opening.proofs.OpeningFits.{opening_is_typed}
use Rattle.us_gen_opening.proofs.laws.opening_is_typed.Goals as goal

pub returns : goal.returns
returns c = opening_is_typed
