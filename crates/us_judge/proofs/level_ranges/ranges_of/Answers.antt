use Rattle.std.proofs.Common.{◌≡◌, ◌++◌, ◌∷◌, [], List, map, length, zero-add, ap, sym, ◌∙◌, arith}
use Rattle.std.proofs.lemmas.List.FromFn.{map-range_with_len_more}
use Rattle.std.specs.List.{range_with_len}
use Rattle.us_expr.specs.declared.ranges.Range.{Range}
use Rattle.us_expr.specs.declared.queries.Query.{Query}
use Rattle.us_format.specs.Coordinates.{variable_range}
use Rattle.us_format.specs.Declaration.{query_of}
use Rattle.us_judge.proofs.level_ranges.ranges_of.Goals as goal

pub loop-variable-preserved : goal.loop-variable-preserved
loop-variable-preserved c =
    let f = variable_range (record { rows = c.args.shape_rows; cols = c.args.shape_cols }) c.args.extents.now (map query_of c.args.part.now.queries) in (
      c.push.ensures.items
          ∙ ap (λ (rs : List Range). rs ++ (c.variable_range.result ∷ [])) c.loop-variable.invariant.0
          ∙ ap (λ (r : Range). map f (range_with_len 0 c.loop-variable.variable) ++ (r ∷ []))
          (c.variable_range.ensures ∙ ap (λ (qs : List Query). variable_range (record { rows = c.args.shape_rows; cols = c.args.shape_cols }) c.args.extents.now (map query_of qs) c.loop-variable.variable) c.as_slice-queries.ensures)
          ∙ sym (map-range_with_len_more f 0 c.loop-variable.variable c.loop-variable.variable (zero-add c.loop-variable.variable)),
      omega (arith, c.push.ensures.len, c.loop-variable.invariant.1),
    )

pub returns-clause-vars : goal.returns-clause-vars
returns-clause-vars c =
    let n : c.loop-variable.variable ≡ length c.args.part.now.names = omega (arith, c.loop-variable.auto.variable-end, c.loop-variable-test.false, c.len-variable-end.ensures) in
    c.loop-variable.invariant.0
    ∙ ap (λ k. map (variable_range (record { rows = c.args.shape_rows; cols = c.args.shape_cols }) c.args.extents.now (map query_of c.args.part.now.queries)) (range_with_len 0 k)) n
