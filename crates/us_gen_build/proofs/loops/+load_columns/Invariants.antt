use Rattle.std.proofs.Common.{length}
use Rattle.us_gen_build.proofs.loops.+load_columns.Given as goal

abbrev pub decreases-load_columns : goal.decreases-load_columns
decreases-load_columns l = length l.columns.now
