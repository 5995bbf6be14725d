use Rattle.std.proofs.Common.{length}
use Rattle.us_gen_packs.proofs.packs.+last_position.Given as goal

abbrev pub decreases-last_position : goal.decreases-last_position
decreases-last_position l = length l.levels.now
