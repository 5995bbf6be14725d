use Rattle.std.proofs.Common.{◌+◌, ◌<◌, ◌^◌, [], pos, sym, subst, refl, ap, arith, List, ℤ, get_or, set}
use Rattle.us_format.specs.Lists.{head}
use Rattle.us_format.specs.Positions.{Row}
use Rattle.us_build.specs.Items.{row_at}
use Rattle.us_build.specs.declared.items.Item.{Item}
use Rattle.us_build.proofs.Casts.{to_z-small}
use Rattle.us_build.proofs.Scattering.{AreCells, cells-next, cells-none, cells-row}
use Rattle.us_build.proofs.Stepping.{head-drop}
use Rattle.us_build.proofs.cells.coordinates.Goals as goal

pub loop-item-init : goal.loop-item-init
loop-item-init c =
    let f = λ (x : Item). pos (get_or x.coordinates c.args.index 0) in
    subst (λ (l : List ℤ). AreCells f c.args.items.now c.args.positions 0 l) (sym c.in_ok-cells.ensures) (cells-none f c.args.items.now c.args.positions)

pub loop-item-preserved : goal.loop-item-preserved
loop-item-preserved c =
    let d : Item = record { above = 0; at = 0; coordinates = []; value = pos 0 } in
    let f = λ (x : Item). pos (get_or x.coordinates c.args.index 0) in
    let x : Item = get_or c.args.items.now c.loop-item.item-index d in
    let h : get_or x.coordinates c.args.index 0 < 2 ^ 63 = c.requires.small c.loop-item.item-index d c.loop-item-test.true in
    subst (λ (z : ℤ). AreCells f c.args.items.now c.args.positions (c.loop-item.item-index + 1) (set c.loop-item.cells.items x.at z)) (sym (to_z-small (get_or x.coordinates c.args.index 0) h))
    (cells-next f c.args.items.now c.args.positions c.loop-item.cells.items c.loop-item.item-index d (λ i j e a b q. ap pos (c.requires.alike i j e a b q)) c.loop-item-test.true
    (c.requires.within c.loop-item.item-index d c.loop-item-test.true) c.loop-item.invariant)

pub returns : goal.returns
returns c =
    cells-row (λ (x : Item). pos (get_or x.coordinates c.args.index 0)) c.args.items.now c.args.positions (row_at c.args.index) (λ (r : Row). pos (head r.rest)) c.loop-item.cells.items c.loop-item.item-index
    (λ x. refl) (λ x. ap pos (sym (head-drop c.args.index x.coordinates))) (omega arith) c.loop-item.invariant
