use Rattle.std.proofs.Common.{length}
use Rattle.us_gen_packs.proofs.packs.+write_packs.Given as goal

abbrev pub decreases-write_packs : goal.decreases-write_packs
decreases-write_packs l = length l.packs.now
