use Rattle.std.proofs.Common.{length}
use Rattle.us_gen_recover.proofs.straight.+names_in.Given as goal

abbrev pub decreases-names_in : goal.decreases-names_in
decreases-names_in l = length l.steps.now
