use Rattle.std.proofs.Common.{length}
use Rattle.us_gen_build.proofs.levels.+open_levels.Given as goal

abbrev pub decreases-open_levels : goal.decreases-open_levels
decreases-open_levels l = length l.levels.now
