use Rattle.std.proofs.Common.{length}
use Rattle.us_gen_pack_building.proofs.levels.+packed_levels.Given as goal

abbrev pub decreases-packed_levels : goal.decreases-packed_levels
decreases-packed_levels l = length l.levels.now
