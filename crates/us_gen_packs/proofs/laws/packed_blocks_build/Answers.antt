use Rattle.us_gen_packs.proofs.Building.{packed_blocks_build}
use Rattle.us_gen_packs.proofs.laws.packed_blocks_build.Goals as goal

pub returns : goal.returns
returns c = packed_blocks_build
