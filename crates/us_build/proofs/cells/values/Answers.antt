use Rattle.std.proofs.Common.{◌+◌, [], pos, sym, subst, refl, arith, List, ℤ, rules, FitsSigned, w64, get_or, set}
use Rattle.us_format.specs.Positions.{Row}
use Rattle.us_build.specs.Items.{row_at}
use Rattle.us_build.specs.declared.items.Item.{Item}
use Rattle.us_build.proofs.Casts.{to_z-kept}
use Rattle.us_build.proofs.Scattering.{AreCells, cells-next, cells-none, cells-row}
use Rattle.us_build.proofs.cells.values.Goals as goal

pub loop-item-init : goal.loop-item-init
loop-item-init c =
    let f = λ (x : Item). x.value in
    subst (λ (l : List ℤ). AreCells f c.args.items.now c.args.positions 0 l) (sym c.in_ok-cells.ensures) (cells-none f c.args.items.now c.args.positions)

pub loop-item-preserved : goal.loop-item-preserved
loop-item-preserved c =
    let d : Item = record { above = 0; at = 0; coordinates = []; value = pos 0 } in
    let f = λ (x : Item). x.value in
    let x : Item = get_or c.args.items.now c.loop-item.item-index d in
    let h : FitsSigned w64 x.value = search rules in
    subst (λ (z : ℤ). AreCells f c.args.items.now c.args.positions (c.loop-item.item-index + 1) (set c.loop-item.cells.items x.at z)) (sym (to_z-kept x.value h))
    (cells-next f c.args.items.now c.args.positions c.loop-item.cells.items c.loop-item.item-index d c.requires.alike c.loop-item-test.true (c.requires.within c.loop-item.item-index d c.loop-item-test.true)
    c.loop-item.invariant)

pub returns : goal.returns
returns c =
    cells-row (λ (x : Item). x.value) c.args.items.now c.args.positions (row_at 6) (λ (r : Row). r.value) c.loop-item.cells.items c.loop-item.item-index (λ x. refl) (λ x. refl) (omega arith)
    c.loop-item.invariant
