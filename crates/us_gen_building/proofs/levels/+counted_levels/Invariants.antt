use Rattle.std.proofs.Common.{length}
use Rattle.us_gen_building.proofs.levels.+counted_levels.Given as goal

abbrev pub decreases-counted_levels : goal.decreases-counted_levels
decreases-counted_levels l = length l.levels.now
