use Rattle.std.proofs.Common.{length}
use Rattle.us_gen_pack_building.proofs.levels.+is_packed.Given as goal

abbrev pub decreases-is_packed : goal.decreases-is_packed
decreases-is_packed l = length l.packs.now
