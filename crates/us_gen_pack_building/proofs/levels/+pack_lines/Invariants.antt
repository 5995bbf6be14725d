use Rattle.std.proofs.Common.{length}
use Rattle.us_gen_pack_building.proofs.levels.+pack_lines.Given as goal

abbrev pub decreases-pack_lines : goal.decreases-pack_lines
decreases-pack_lines l = length l.packs.now
