use Rattle.us_build.proofs.Filling.{AreStarts}
use Rattle.us_build.proofs.cells.starts.Given as goal

abbrev pub invariant-loop-item : goal.invariant-loop-item
invariant-loop-item l = AreStarts l.count l.above l.items l.item-index l.cells.items
