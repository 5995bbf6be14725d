use Rattle.std.proofs.Common.{◌+◌, ◌++◌, drop, get_or, flat_map, sym, ap, ◌∙◌, refl, append_assoc, append-nil, pos}
use Rattle.std.proofs.lemmas.List.{at_drop_more, drop_all}
use Rattle.us_matrix.specs.declared.matrix.Triple.{Triple}
use Rattle.us_mm.specs.Text.{text, entry_line}
use Rattle.us_mm.proofs.writer.write_coordinate.Goals as goal

pub loop-t-init : goal.loop-t-init
unfolding text
loop-t-init c =
    rw (c.in_ok-push_sizes.ensures, c.in_ok-out.ensures.items, c.shape-shape.ensures.value.0, c.shape-shape.ensures.value.1, c.entries-entries.ensures.value) refl

pub loop-t-preserved : goal.loop-t-preserved
loop-t-preserved c =
    let es = c.entries-entries.result.now in
    let k = c.loop-t.t-index in
    let zero_entry : Triple = record { i = 0; j = 0; v = pos 0 } in
    rw (c.in_ok-push_entry.ensures) (append_assoc (c.loop-t.out.items) (entry_line (get_or es k zero_entry)) (flat_map entry_line (drop (k + 1) es)) ∙ ap (λ l. c.loop-t.out.items ++ l) (sym (at_drop_more (flat_map entry_line) es k zero_entry c.loop-t-test.true)) ∙ c.loop-t.invariant)

pub returns : goal.returns
returns c =
    sym (append-nil _) ∙ ap (λ l. c.loop-t.out.items ++ flat_map entry_line l) (sym (drop_all c.loop-t.t-index c.entries-entries.result.now c.loop-t-test.false)) ∙ c.loop-t.invariant
