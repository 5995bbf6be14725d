use Rattle.std.proofs.Common.{arith, rules, ◌≡◌, ◌≢◌, ◌+◌, ◌%◌, ◌^◌, ◌⊎◌, get_or, ap, ◌∙◌, inl, inr, pos, FitsSigned}
use Rattle.std.specs.Int.{w64, cast_unsigned}
use Rattle.std.proofs.lemmas.Int.{to_z-of_z}
use Rattle.us_matrix.proofs.Merge.{step_same, step_next, merged_rising, merged_entries, merged_values}
use Rattle.us_matrix.proofs.merging.merge_sorted.Goals as goal
use Rattle.us_matrix.proofs.merging.merge_sorted.Goals.{then-t-i, then-t-i-via-then-t-i, then-t-i-via-else-t-i+then-t-j, else-t-i+else-t-j}

pub loop-k-preserved : goal.loop-k-preserved
loop-k-preserved c =
    let ts = c.args.triples.now in
    let now = c.loop-k.triples in
    let k = c.loop-k.k in
    let t = get_or now k (record { i = 0; j = 0; v = pos 0 }) in
    let fits : FitsSigned w64 t.v = search rules in
    let bits : c.cast_unsigned-sum.result ≡ cast_unsigned w64 t.v = c.cast_unsigned-sum.ensures ∙ ap (cast_unsigned w64) (to_z-of_z w64 t.v fits) in
    elim c.if-t-i.branch [
      | then-t-i w ↦
          let differ : (t.i ≢ c.loop-k.i) ⊎ (t.j ≢ c.loop-k.j) = elim w.then-t-i.branch [ then-t-i-via-then-t-i v ↦ inl v.if-t-i.true | then-t-i-via-else-t-i+then-t-j v ↦ inr v.if-t-j.true ] in
          rw (w.triples-is, w.count-is, w.i-is, w.j-is, w.sum-is)
          (step_next ts now w.put_sum-count.new.triples k c.loop-k.count w.put_sum-count.result c.loop-k.i c.loop-k.j c.loop-k.sum _ (record { i = 0; j = 0; v = pos 0 }) c.requires.shape.1 c.requires.order c.loop-k.invariant (omega arith) (omega arith) c.requires.inside differ
          w.put_sum-count.ensures.front w.put_sum-count.ensures.behind w.put_sum-count.ensures.none w.put_sum-count.ensures.one w.put_sum-count.auto.triples (ap (λ b. (0 + b) % 2 ^ 64) bits))
      | else-t-i+else-t-j w ↦
          rw (w.triples-is, w.count-is, w.i-is, w.j-is, w.sum-is)
          (step_same ts now k c.loop-k.count c.loop-k.i c.loop-k.j c.loop-k.sum _ (record { i = 0; j = 0; v = pos 0 }) c.loop-k.invariant (omega arith) w.if-t-i.false w.if-t-j.false (ap (λ b. (c.loop-k.sum + b) % 2 ^ 64) bits))
    ]

pub returns-clause-rising : goal.returns-clause-rising
returns-clause-rising c = rw c.put_sum.ensures.front (merged_rising _ _ _ _ _ _ c.loop-k.invariant.0)

pub returns-clause-entries : goal.returns-clause-entries
returns-clause-entries c = rw c.put_sum.ensures.front (merged_entries _ _ _ _ _ _ c.loop-k.invariant.0 (omega arith))

pub returns-clause-values : goal.returns-clause-values
returns-clause-values c = λ i j. rw c.put_sum.ensures.front (merged_values _ _ _ _ _ _ c.loop-k.invariant.0 (omega arith) (omega arith) i j)
