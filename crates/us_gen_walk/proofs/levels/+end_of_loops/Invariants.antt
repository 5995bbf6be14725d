use Rattle.std.proofs.Common.{length}
use Rattle.us_gen_walk.proofs.levels.+end_of_loops.Given as goal

abbrev pub decreases-end_of_loops : goal.decreases-end_of_loops
decreases-end_of_loops l = length l.loops.now
