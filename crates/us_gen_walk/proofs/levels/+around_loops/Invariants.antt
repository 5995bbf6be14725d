use Rattle.std.proofs.Common.{length}
use Rattle.us_gen_walk.proofs.levels.+around_loops.Given as goal

abbrev pub decreases-around_loops : goal.decreases-around_loops
decreases-around_loops l = length l.loops.now
