use Rattle.std.proofs.Common.{length}
use Rattle.us_gen_parts_build.proofs.queries.+extent_dim.Given as goal

abbrev pub decreases-extent_dim : goal.decreases-extent_dim
decreases-extent_dim l = length l.queries.now
