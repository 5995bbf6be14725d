use Rattle.std.proofs.Common.{get_or, pos}
use Rattle.us_build.specs.declared.items.Item.{Item}
use Rattle.us_build.proofs.Scattering.{AreCells}
use Rattle.us_build.proofs.cells.coordinates.Given as goal

abbrev pub invariant-loop-item : goal.invariant-loop-item
invariant-loop-item l = AreCells (λ (x : Item). pos (get_or x.coordinates l.index 0)) l.items l.positions l.item-index l.cells.items
