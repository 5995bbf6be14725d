use Rattle.std.proofs.Common.{length}
use Rattle.us_climb.proofs.extents.+extents_misfit.Given as goal

abbrev pub decreases-extents_misfit : goal.decreases-extents_misfit
decreases-extents_misfit l = length l.queries.now
