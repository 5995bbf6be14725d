use Rattle.std.proofs.Common.{length}
use Rattle.us_gen_walk.proofs.levels.+position_in_loops.Given as goal

abbrev pub decreases-position_in_loops : goal.decreases-position_in_loops
decreases-position_in_loops l = length l.loops.now
