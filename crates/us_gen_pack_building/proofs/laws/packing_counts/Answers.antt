use Rattle.us_gen_pack_building.proofs.Counting.{packing_counts}
use Rattle.us_gen_pack_building.proofs.laws.packing_counts.Goals as goal

pub returns : goal.returns
returns c = packing_counts
