use Rattle.std.proofs.Common.{length}
use Rattle.us_gen_parts.proofs.queries.+counting_query.Given as goal

abbrev pub decreases-counting_query : goal.decreases-counting_query
decreases-counting_query l = length l.queries.now
