use Rattle.std.proofs.Common.{length}
use Rattle.us_gen_building.proofs.keys.+has_listed.Given as goal

abbrev pub decreases-has_listed : goal.decreases-has_listed
decreases-has_listed l = length l.levels.now
