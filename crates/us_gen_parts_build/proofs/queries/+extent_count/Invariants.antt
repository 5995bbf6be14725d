use Rattle.std.proofs.Common.{length}
use Rattle.us_gen_parts_build.proofs.queries.+extent_count.Given as goal

abbrev pub decreases-extent_count : goal.decreases-extent_count
decreases-extent_count l = length l.queries.now
