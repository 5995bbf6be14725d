use Rattle.us_gen_build.proofs.Closing.{blocks_build}
use Rattle.us_gen_build.proofs.laws.blocks_build.Goals as goal

pub returns : goal.returns
returns c = blocks_build
