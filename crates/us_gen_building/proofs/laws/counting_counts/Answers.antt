use Rattle.us_gen_building.proofs.Counting.{counting_counts}
use Rattle.us_gen_building.proofs.laws.counting_counts.Goals as goal

pub returns : goal.returns
returns c = counting_counts
