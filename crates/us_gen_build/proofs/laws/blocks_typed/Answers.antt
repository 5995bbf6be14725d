use Rattle.us_gen_build.proofs.BlockTyped.{blocks_typed}
use Rattle.us_gen_build.proofs.laws.blocks_typed.Goals as goal

pub returns : goal.returns
returns c = blocks_typed
