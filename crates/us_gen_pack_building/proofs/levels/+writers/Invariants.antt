use Rattle.std.proofs.Common.{length}
use Rattle.us_gen_pack_building.proofs.levels.+writers.Given as goal

abbrev pub decreases-writers : goal.decreases-writers
decreases-writers l = length l.packs.now
