use Rattle.std.proofs.Common.{◌+◌, pos, arith, rules, ◌∙◌, sym, subst}
use Rattle.std.proofs.lemmas.List.{take_rest}
use Rattle.us_matrix.specs.declared.matrix.Triple.{Triple}
use Rattle.us_changes.proofs.MergeLemmas.{IsMergedTo, merged_more, merged_skip, merged_end}
use Rattle.us_changes.proofs.merging.merge.Goals.{then-not-is_overwritten+in_ok-count, else-not-is_overwritten}
use Rattle.us_changes.proofs.merging.merge.Goals as goal

pub offset_bounds-rest-count : goal.offset_bounds-rest-count
offset_bounds-rest-count c =
    let within = c.in_ok-count.ensures.within in
    let shorter = c.loop-k.invariant.shorter in
    search rules

pub loop-k-preserved : goal.loop-k-preserved
loop-k-preserved c =
    let zero_entry : Triple = record { i = 0; j = 0; v = pos 0 } in
    let rows = c.args.shape.rows in
    let cols = c.args.shape.cols in
    let sets = c.args.sets.now in
    let entries = c.args.entries.now in
    let rest = c.loop-k.rest.now in
    let k = c.loop-k.k in
    elim c.if-not-is_overwritten.branch [
      | then-not-is_overwritten+in_ok-count w ↦
          let n = w.in_ok-count.count in
          let out = w.take_set.new.merged.entries.items in
          let back = w.take_set.new.merged.back.items in
          rw (w.merged-is, w.rest-is)
          (subst (λ l. IsMergedTo rows cols sets entries l out back (k + 1)) (sym (take_rest rest n))
          (merged_more rows cols sets entries rest c.loop-k.merged.entries.items out c.loop-k.merged.back.items back k n zero_entry c.loop-k-test.true c.requires.order
          (sym w.if-not-is_overwritten.true ∙ c.is_overwritten.ensures zero_entry) w.in_ok-count.ensures c.loop-k.invariant))
      | else-not-is_overwritten w ↦
          rw (w.merged-is, w.rest-is)
          (merged_skip rows cols sets entries rest c.loop-k.merged.entries.items c.loop-k.merged.back.items k zero_entry c.loop-k-test.true
          (sym w.if-not-is_overwritten.false ∙ c.is_overwritten.ensures zero_entry) c.loop-k.invariant)
    ]

pub returns-clause-back : goal.returns-clause-back
returns-clause-back c =
    (merged_end c.args.shape.rows c.args.shape.cols c.args.sets.now c.args.entries.now c.loop-k.rest.now c.loop-k.merged.entries.items c.loop-k.merged.back.items c.loop-k.k c.loop-k-test.false c.loop-k.invariant).1

pub returns-clause-entries : goal.returns-clause-entries
returns-clause-entries c =
    c.in_ok-extend_from_slice.ensures.items
    ∙ (merged_end c.args.shape.rows c.args.shape.cols c.args.sets.now c.args.entries.now c.loop-k.rest.now c.loop-k.merged.entries.items c.loop-k.merged.back.items c.loop-k.k c.loop-k-test.false c.loop-k.invariant).0
