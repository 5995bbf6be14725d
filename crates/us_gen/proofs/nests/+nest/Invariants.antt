use Rattle.std.proofs.Common.{length}
use Rattle.us_gen.proofs.nests.+nest.Given as goal

abbrev pub decreases-nest : goal.decreases-nest
decreases-nest l = length l.levels.now
