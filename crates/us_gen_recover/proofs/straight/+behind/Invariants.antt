use Rattle.std.proofs.Common.{length}
use Rattle.us_gen_recover.proofs.straight.+behind.Given as goal

abbrev pub decreases-behind : goal.decreases-behind
decreases-behind l = length l.steps.now
