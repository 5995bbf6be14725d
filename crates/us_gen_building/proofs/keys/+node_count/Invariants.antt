use Rattle.std.proofs.Common.{length}
use Rattle.us_gen_building.proofs.keys.+node_count.Given as goal

abbrev pub decreases-node_count : goal.decreases-node_count
decreases-node_count l = length l.levels.now
