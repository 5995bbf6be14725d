use Rattle.std.proofs.Common.{length}
use Rattle.us_gen_packs.proofs.packs.PackWriter.+cells_from.Given as goal

abbrev pub decreases-cells_from : goal.decreases-cells_from
decreases-cells_from l = length l.columns.now
