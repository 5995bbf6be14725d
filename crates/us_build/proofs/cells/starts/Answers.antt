use Rattle.std.proofs.Common.{[], pos, sym, subst, arith, List, ℤ}
use Rattle.us_build.specs.declared.items.Item.{Item}
use Rattle.us_build.proofs.Filling.{AreStarts, starts-end, starts-next, starts-none}
use Rattle.us_build.proofs.cells.starts.Goals as goal

pub loop-item-init : goal.loop-item-init
loop-item-init c =
    subst (λ (l : List ℤ). AreStarts c.args.count c.args.above c.args.items.now 0 l) (sym c.new-cells.ensures.items) (starts-none c.args.count c.args.above c.args.items.now)

pub loop-item-preserved : goal.loop-item-preserved
loop-item-preserved c =
    let d : Item = record { above = 0; at = 0; coordinates = []; value = pos 0 } in
    starts-next c.args.count c.args.above c.args.items.now c.loop-item.cells.items c.fill.new.cells.items c.loop-item.item-index d c.loop-item-test.true
    (c.requires.within c.loop-item.item-index d c.loop-item-test.true) c.loop-item.invariant c.in_ok-fill.ensures

pub returns : goal.returns
returns c =
    starts-end c.args.count c.args.above c.args.items.now c.loop-item.cells.items c.fill-2.new.cells.items c.loop-item.item-index (record { above = 0; at = 0; coordinates = []; value = pos 0 })
    (omega arith) c.loop-item.invariant c.in_ok-fill-2.ensures
