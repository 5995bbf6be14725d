use Rattle.std.proofs.Common.{length}
use Rattle.us_gen_counting.proofs.selecting.+push_tests.Given as goal

abbrev pub decreases-push_tests : goal.decreases-push_tests
decreases-push_tests l = length l.conds.now
