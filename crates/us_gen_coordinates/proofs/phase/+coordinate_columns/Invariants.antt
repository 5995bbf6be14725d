use Rattle.std.proofs.Common.{length}
use Rattle.us_gen_coordinates.proofs.phase.+coordinate_columns.Given as goal

abbrev pub decreases-coordinate_columns : goal.decreases-coordinate_columns
decreases-coordinate_columns l = length l.values.now
