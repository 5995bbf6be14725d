use Rattle.us_build.specs.declared.items.Item.{Item}
use Rattle.us_build.proofs.Scattering.{AreCells}
use Rattle.us_build.proofs.cells.values.Given as goal

abbrev pub invariant-loop-item : goal.invariant-loop-item
invariant-loop-item l = AreCells (λ (x : Item). x.value) l.items l.positions l.item-index l.cells.items
