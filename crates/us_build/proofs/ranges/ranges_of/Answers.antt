use Rattle.std.proofs.Common.{◌≡◌, ◌++◌, ◌∷◌, [], ℕ, List, map, ap, ap₂, sym, ◌∙◌, length, arith, zero-add}
use Rattle.std.specs.List.{range_with_len}
use Rattle.std.proofs.lemmas.List.FromFn.{length-map-range_with_len, map-range_with_len_more}
use Rattle.us_expr.specs.declared.ranges.Range.{Range}
use Rattle.us_format.specs.Coordinates.{variable_range}
use Rattle.us_format.specs.Declaration.{query_of}
use Rattle.us_format.specs.Program.{plain_shape}
use Rattle.us_variables.specs.Counted.{value_in}
use Rattle.us_build.proofs.ranges.ranges_of.Goals as goal

pub loop-name-preserved : goal.loop-name-preserved
loop-name-preserved c =
    let v = c.loop-name.name in
    let f : ℕ → Range = variable_range (plain_shape c.args.shape) c.args.variables.now.extents.items (map query_of c.args.queries.now) in
    let here : c.variable_range.result ≡ f v =
    c.variable_range.ensures ∙ ap (λ (ns : List ℕ). variable_range (plain_shape c.args.shape) ns (map query_of c.args.queries.now) v) c.extents-extents.ensures in (
      c.push.ensures.items ∙ ap₂ (λ (xs : List Range) (x : Range). xs ++ x ∷ []) c.loop-name.invariant.0 here ∙ sym (map-range_with_len_more f 0 v v (zero-add v)),
      omega (arith, c.push.ensures.len, c.loop-name.invariant.1),
    )

pub returns-clause-vars : goal.returns-clause-vars
returns-clause-vars c =
    let f : ℕ → Range = variable_range (plain_shape c.args.shape) c.args.variables.now.extents.items (map query_of c.args.queries.now) in
    let n : c.loop-name.name ≡ c.args.variables.now.names =
    omega (
      arith,
      c.loop-name-test.false,
      c.loop-name.auto.name-end,
      c.len-names.ensures.value,
      ap length c.values.ensures,
      length-map-range_with_len (λ v. value_in c.args.variables.now v 0) 0 c.args.variables.now.names,
    ) in
    c.loop-name.invariant.0 ∙ ap (λ (k : ℕ). map f (range_with_len 0 k)) n
