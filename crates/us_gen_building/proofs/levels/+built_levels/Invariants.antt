use Rattle.std.proofs.Common.{length}
use Rattle.us_gen_building.proofs.levels.+built_levels.Given as goal

abbrev pub decreases-built_levels : goal.decreases-built_levels
decreases-built_levels l = length l.levels.now
