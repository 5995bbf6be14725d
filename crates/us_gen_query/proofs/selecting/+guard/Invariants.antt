use Rattle.std.proofs.Common.{length}
use Rattle.us_gen_query.proofs.selecting.+guard.Given as goal

abbrev pub decreases-guard : goal.decreases-guard
decreases-guard l = length l.tests.now
