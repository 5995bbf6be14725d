use Rattle.std.proofs.Common.{length}
use Rattle.us_gen_walk.proofs.levels.+push_loop_coordinates.Given as goal

abbrev pub decreases-push_loop_coordinates : goal.decreases-push_loop_coordinates
decreases-push_loop_coordinates l = length l.loops.now
