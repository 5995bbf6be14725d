use Rattle.std.proofs.Common.{ℕ, ◌+◌, ◌*◌, [], get_or, pos, sym, ap, arith}
use Rattle.us_format.specs.declared.Kind.TheVariants.{Full}
use Rattle.us_build.specs.Items.{rows_at, stepped}
use Rattle.us_build.specs.declared.items.Item.{Item}
use Rattle.us_build.proofs.Stepping.{head-drop, step_over}
use Rattle.us_build.proofs.steps.spread.Goals as goal

pub loop-item-preserved : goal.loop-item-preserved
loop-item-preserved c =
    let d : Item = record { above = 0; at = 0; coordinates = []; value = pos 0 } in
    let xs = c.args.items.now in
    let x : Item = get_or xs c.loop-item.item-index d in
    step_over (stepped Full c.args.size c.args.index (rows_at c.args.index xs))
    (λ (y : Item). record { above = y.at; at = y.at * c.args.size + get_or y.coordinates c.args.index 0; coordinates = y.coordinates; value = y.value })
    xs c.loop-item.items c.loop-item.item-index d (omega arith) c.loop-item.invariant
    (ap (λ (n : ℕ). record { above = x.at; at = x.at * c.args.size + n; coordinates = x.coordinates; value = x.value }) (sym (head-drop c.args.index x.coordinates)))
