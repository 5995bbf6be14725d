use Rattle.std.proofs.Common.{length}
use Rattle.us_gen_counting.proofs.counting.+count_phases.Given as goal

abbrev pub decreases-count_phases : goal.decreases-count_phases
decreases-count_phases l = length l.queries.now
