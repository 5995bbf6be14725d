use Rattle.std.proofs.Common.{◌+◌, ◌++◌, drop, get_or, flat_map, sym, ap, ◌∙◌, refl, append_assoc, append-nil, pos}
use Rattle.std.proofs.lemmas.List.{at_drop_more, drop_all}
use Rattle.us_mm.specs.Text.{array_text, value_line}
use Rattle.us_mm.proofs.array_writer.write_array.Goals as goal

pub loop-v-init : goal.loop-v-init
unfolding array_text
loop-v-init c = rw (c.in_ok-push_sides.ensures, c.in_ok-out.ensures.items, c.rows.ensures, c.cols.ensures, c.cells-cells.ensures.value) refl

pub loop-v-preserved : goal.loop-v-preserved
loop-v-preserved c =
    let vs = c.cells-cells.result.now in
    let k = c.loop-v.v-index in
    rw (c.in_ok-push_value.ensures) (append_assoc (c.loop-v.out.items) (value_line (get_or vs k (pos 0))) (flat_map value_line (drop (k + 1) vs)) ∙ ap (λ l. c.loop-v.out.items ++ l) (sym (at_drop_more (flat_map value_line) vs k (pos 0) c.loop-v-test.true)) ∙ c.loop-v.invariant)

pub returns : goal.returns
returns c =
    sym (append-nil _) ∙ ap (λ l. c.loop-v.out.items ++ flat_map value_line l) (sym (drop_all c.loop-v.v-index c.cells-cells.result.now c.loop-v-test.false)) ∙ c.loop-v.invariant
