use Rattle.us_gen_packs.proofs.Typed.{packed_blocks_typed}
use Rattle.us_gen_packs.proofs.laws.packed_blocks_typed.Goals as goal

pub returns : goal.returns
returns c = packed_blocks_typed
