use Rattle.std.proofs.Common.{◌++◌, ◌∷◌, [], ℕ, List, map, ap₂, sym, ◌∙◌, arith, zero-add}
use Rattle.std.proofs.lemmas.List.FromFn.{map-range_with_len_more}
use Rattle.us_format.specs.Declaration.{query_of}
use Rattle.us_gen_counting.specs.Phases.{column_of}
use Rattle.us_gen_counting.proofs.counting.variable_columns.Goals as goal

pub loop-var-preserved : goal.loop-var-preserved
loop-var-preserved c =
    let v = c.loop-var.var in
    let f : ℕ → ℕ = λ w. column_of (map query_of c.args.queries.now) w c.args.next c.args.columns.now.i in (
      c.push.ensures.items ∙ ap₂ (λ (xs : List ℕ) (x : ℕ). xs ++ x ∷ []) c.loop-var.invariant.0 c.column_of.ensures ∙ sym (map-range_with_len_more f 0 v v (zero-add v)),
      omega (arith, c.push.ensures.len, c.loop-var.invariant.1),
    )
