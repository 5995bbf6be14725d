use Rattle.std.proofs.Common.{length}
use Rattle.us_gen_packs.proofs.makes.+new_packs.Given as goal

abbrev pub decreases-new_packs : goal.decreases-new_packs
decreases-new_packs l = length l.packs.now
