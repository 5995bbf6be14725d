use Rattle.std.proofs.Common.{length}
use Rattle.us_gen_coordinates.proofs.phase.+body.Given as goal

abbrev pub decreases-body : goal.decreases-body
decreases-body l = length l.values.now
