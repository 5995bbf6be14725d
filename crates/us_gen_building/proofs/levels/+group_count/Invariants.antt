use Rattle.std.proofs.Common.{length}
use Rattle.us_gen_building.proofs.levels.+group_count.Given as goal

abbrev pub decreases-group_count : goal.decreases-group_count
decreases-group_count l = length l.levels.now
