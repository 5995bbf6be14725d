use Rattle.std.proofs.Common.{length}
use Rattle.us_gen_opening.proofs.counting.+read_extents.Given as goal

abbrev pub decreases-read_extents : goal.decreases-read_extents
decreases-read_extents l = length l.extents.now
