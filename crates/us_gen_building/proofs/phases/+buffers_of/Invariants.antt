use Rattle.std.proofs.Common.{length}
use Rattle.us_gen_building.proofs.phases.+buffers_of.Given as goal

abbrev pub decreases-buffers_of : goal.decreases-buffers_of
decreases-buffers_of l = length l.levels.now
