use Rattle.std.proofs.Common.{◌-◌, length, pos}
use Rattle.us_build.proofs.Filling.{IsFilled}
use Rattle.us_build.proofs.cells.fill.Given as goal

abbrev pub invariant-loop-cells : goal.invariant-loop-cells
invariant-loop-cells l = IsFilled l.count (pos l.value) l.initial.cells.items l.cells.items

abbrev pub decreases-loop-cells : goal.decreases-loop-cells
decreases-loop-cells l = l.count - length l.cells.items
