use Rattle.std.proofs.Common.{length}
use Rattle.us_climb.proofs.lengths.+counts_left.Given as goal

abbrev pub decreases-counts_left : goal.decreases-counts_left
decreases-counts_left l = length l.levels.now
