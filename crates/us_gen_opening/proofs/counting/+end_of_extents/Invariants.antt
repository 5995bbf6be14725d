use Rattle.std.proofs.Common.{length}
use Rattle.us_gen_opening.proofs.counting.+end_of_extents.Given as goal

abbrev pub decreases-end_of_extents : goal.decreases-end_of_extents
decreases-end_of_extents l = length l.extents.now
