use Rattle.std.proofs.Common.{length}
use Rattle.us_gen_build.proofs.loops.+close_levels.Given as goal

abbrev pub decreases-close_levels : goal.decreases-close_levels
decreases-close_levels l = length l.levels.now
