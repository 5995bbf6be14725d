use Rattle.us_gen_opening.proofs.BothPhases.{unpack_is_typed}
use Rattle.us_gen_opening.proofs.laws.unpack_is_typed.Goals as goal

pub returns : goal.returns
returns c = unpack_is_typed
