use Rattle.std.proofs.Common.{length}
use Rattle.us_climb.proofs.lengths.+walk_misfit.Given as goal

abbrev pub decreases-walk_misfit : goal.decreases-walk_misfit
decreases-walk_misfit l = length l.levels.now
