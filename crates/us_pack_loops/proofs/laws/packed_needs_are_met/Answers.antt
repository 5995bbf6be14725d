use Rattle.us_pack_loops.proofs.Whole.{packed_needs_are_met}
use Rattle.us_pack_loops.proofs.laws.packed_needs_are_met.Goals as goal

pub returns : goal.returns
returns c = packed_needs_are_met
