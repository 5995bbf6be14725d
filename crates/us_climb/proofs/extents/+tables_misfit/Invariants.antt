use Rattle.std.proofs.Common.{length}
use Rattle.us_climb.proofs.extents.+tables_misfit.Given as goal

abbrev pub decreases-tables_misfit : goal.decreases-tables_misfit
decreases-tables_misfit l = length l.queries.now
