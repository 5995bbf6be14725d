use Rattle.std.proofs.Common.{length}
use Rattle.us_gen_coordinates.proofs.phase.+makes.Given as goal

abbrev pub decreases-makes : goal.decreases-makes
decreases-makes l = length l.values.now
