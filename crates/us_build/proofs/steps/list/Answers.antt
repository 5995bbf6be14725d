use Rattle.std.proofs.Common.{◌≡◌, ℕ, ◌<◌, [], get_or, length, pos, sym, ap, ◌∙◌, arith}
use Rattle.std.proofs.lemmas.List.{get_or-map, length-map}
use Rattle.us_format.specs.Lists.{rank}
use Rattle.us_format.specs.Positions.{Row, node_of, nodes}
use Rattle.us_format.specs.declared.Kind.TheVariants.{Listed}
use Rattle.us_build.specs.Items.{row_at, rows_at, stepped}
use Rattle.us_build.specs.declared.items.Item.{Item}
use Rattle.us_build.proofs.Ranks.{listed-place}
use Rattle.us_build.proofs.Stepping.{step_over, stepped-all}
use Rattle.us_build.proofs.steps.list.Goals as goal

pub loop-i-preserved : goal.loop-i-preserved
loop-i-preserved c = λ level up.
    let d : Item = record { above = 0; at = 0; coordinates = []; value = pos 0 } in
    let xs = c.args.items.now in
    let i : ℕ = c.loop-i.i in
    let x : Item = get_or xs i d in
    let h : i < length xs = omega arith in
    let rows = rows_at level xs in
    let is : get_or rows i (row_at level d) ≡ row_at level x = get_or-map (row_at level) xs i d (row_at level d) h in
    step_over (stepped Listed 0 level rows) (λ (y : Item). record { above = y.at; at = i; coordinates = y.coordinates; value = y.value })
    xs c.loop-i.items i d h (c.loop-i.invariant level up)
    (ap (λ (n : ℕ). record { above = x.at; at = n; coordinates = x.coordinates; value = x.value })
    (sym (listed-place rows i (row_at level d) up (omega (arith, length-map xs (row_at level)))) ∙ ap (λ (r : Row). rank (nodes Listed rows) (node_of Listed r)) is))

pub returns : goal.returns
returns c = λ level up.
    let f = stepped Listed 0 level (rows_at level c.args.items.now) in
    stepped-all f c.args.items.now c.loop-i.items c.loop-i.i (omega arith) (c.loop-i.invariant level up)
