use Rattle.std.proofs.Common.{length}
use Rattle.us_gen_building.proofs.levels.+are_last.Given as goal

abbrev pub decreases-are_last : goal.decreases-are_last
decreases-are_last l = length l.levels.now
