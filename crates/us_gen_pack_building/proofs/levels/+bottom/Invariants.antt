use Rattle.std.proofs.Common.{length}
use Rattle.us_gen_pack_building.proofs.levels.+bottom.Given as goal

abbrev pub decreases-bottom : goal.decreases-bottom
decreases-bottom l = length l.levels.now
