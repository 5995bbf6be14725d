use Rattle.std.proofs.Common.{length}
use Rattle.us_gen_counting.proofs.counting.+column_of.Given as goal

abbrev pub decreases-column_of : goal.decreases-column_of
decreases-column_of l = length l.queries.now
