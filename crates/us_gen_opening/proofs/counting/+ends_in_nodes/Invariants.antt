use Rattle.std.proofs.Common.{length}
use Rattle.us_gen_opening.proofs.counting.+ends_in_nodes.Given as goal

abbrev pub decreases-ends_in_nodes : goal.decreases-ends_in_nodes
decreases-ends_in_nodes l = length l.loops.now
