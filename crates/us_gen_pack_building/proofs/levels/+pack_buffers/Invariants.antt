use Rattle.std.proofs.Common.{length}
use Rattle.us_gen_pack_building.proofs.levels.+pack_buffers.Given as goal

abbrev pub decreases-pack_buffers : goal.decreases-pack_buffers
decreases-pack_buffers l = length l.packs.now
