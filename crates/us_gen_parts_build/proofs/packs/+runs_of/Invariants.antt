use Rattle.std.proofs.Common.{length}
use Rattle.us_gen_parts_build.proofs.packs.+runs_of.Given as goal

abbrev pub decreases-runs_of : goal.decreases-runs_of
decreases-runs_of l = length l.packs.now
