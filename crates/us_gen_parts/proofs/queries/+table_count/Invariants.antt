use Rattle.std.proofs.Common.{length}
use Rattle.us_gen_parts.proofs.queries.+table_count.Given as goal

abbrev pub decreases-table_count : goal.decreases-table_count
decreases-table_count l = length l.queries.now
