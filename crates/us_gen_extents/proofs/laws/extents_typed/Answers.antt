use Rattle.us_gen_extents.proofs.Extents.{extents_typed}
use Rattle.us_gen_extents.proofs.laws.extents_typed.Goals as goal

pub returns : goal.returns
returns c = extents_typed
