use Rattle.us_pack_loops.proofs.Whole.{packed_blocks_build_parts}
use Rattle.us_pack_loops.proofs.laws.packed_blocks_build_parts.Goals as goal

pub returns : goal.returns
returns c = packed_blocks_build_parts
