use Rattle.std.proofs.Common.{length}
use Rattle.us_climb.proofs.climbing.+climb_from.Given as goal

abbrev pub decreases-climb_from : goal.decreases-climb_from
decreases-climb_from l = length l.levels.now
