use Rattle.std.proofs.Common.{length}
use Rattle.us_judge.proofs.level_ranges.+variable_range.Given as goal

abbrev pub decreases-variable_range : goal.decreases-variable_range
decreases-variable_range l = length l.queries.now
