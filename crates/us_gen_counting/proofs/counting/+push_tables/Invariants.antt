use Rattle.std.proofs.Common.{length}
use Rattle.us_gen_counting.proofs.counting.+push_tables.Given as goal

abbrev pub decreases-push_tables : goal.decreases-push_tables
decreases-push_tables l = length l.queries.now
