use Rattle.std.specs.List.{list_any}
use Rattle.std.proofs.Common.{◌≡◌, ◌+◌, ◌≤◌, ℕ, List, map, min, All, sym, ap₂, subst, ◌∙◌, arith}
use Rattle.us_expr.specs.declared.queries.Query.{Query}
use Rattle.us_format.specs.Declaration.{query_of}
use Rattle.us_format.specs.Matrix.{Shape}
use Rattle.us_format.specs.Program.{shape_in}
use Rattle.us_format.specs.Reading.{limit}
use Rattle.us_judge.specs.Views.{plain_part}
use Rattle.us_build.specs.Pieces.{size_on}
use Rattle.us_parts.specs.Cells.{has_long_axis}
use Rattle.us_parts.proofs.Storing.{buildable, cells-same, countable, extents-small, is-part, pieces-same, shape-same, too-long, whole-is}
use Rattle.us_parts.proofs.building.size_of_part.Goals as goal

pub returns-then-has_some_long_axis : goal.returns-then-has_some_long_axis
returns-then-has_some_long_axis c =
    let long : c.has_some_long_axis.result ≡ list_any (has_long_axis (shape_in c.args.matrix.now)) (map query_of c.args.part.now.queries) =
    c.has_some_long_axis.ensures ∙ ap₂ (λ (z : Shape) (l : List Query). list_any (has_long_axis z) (map query_of l)) (shape-same c.shape-shape.result c.args.matrix.now c.shape-shape.ensures.value) c.as_slice-queries.ensures in
    omega (arith, too-long c.args.part.now c.args.matrix.now c.requires.storable (sym long ∙ c.if-has_some_long_axis.true))

pub variables_of-requires-clause-countable : goal.variables_of-requires-clause-countable
variables_of-requires-clause-countable c =
    let long : c.has_some_long_axis.result ≡ list_any (has_long_axis (shape_in c.args.matrix.now)) (map query_of c.args.part.now.queries) =
    c.has_some_long_axis.ensures ∙ ap₂ (λ (z : Shape) (l : List Query). list_any (has_long_axis z) (map query_of l)) (shape-same c.shape-shape.result c.args.matrix.now c.shape-shape.ensures.value) c.as_slice-queries.ensures in
    countable c.args.part.now c.args.matrix.now c.requires.storable (sym long ∙ c.if-has_some_long_axis.false)

pub queries_cells-cells-requires-clause-small : goal.queries_cells-cells-requires-clause-small
queries_cells-cells-requires-clause-small c =
    let long : c.has_some_long_axis.result ≡ list_any (has_long_axis (shape_in c.args.matrix.now)) (map query_of c.args.part.now.queries) =
    c.has_some_long_axis.ensures ∙ ap₂ (λ (z : Shape) (l : List Query). list_any (has_long_axis z) (map query_of l)) (shape-same c.shape-shape.result c.args.matrix.now c.shape-shape.ensures.value) c.as_slice-queries.ensures in
    subst (λ (ns : List ℕ). All (λ n. n ≤ 67108864) ns) (sym c.extents.ensures)
    (extents-small c.args.part.now c.args.matrix.now c.requires.storable c.in_ok-variables.variables c.in_ok-variables.ensures c.requires.few (countable c.args.part.now c.args.matrix.now c.requires.storable (sym long ∙ c.if-has_some_long_axis.false)))

pub size_of_pieces-requires : goal.size_of_pieces-requires
size_of_pieces-requires c =
    let long : c.has_some_long_axis.result ≡ list_any (has_long_axis (shape_in c.args.matrix.now)) (map query_of c.args.part.now.queries) =
    c.has_some_long_axis.ensures ∙ ap₂ (λ (z : Shape) (l : List Query). list_any (has_long_axis z) (map query_of l)) (shape-same c.shape-shape.result c.args.matrix.now c.shape-shape.ensures.value) c.as_slice-queries.ensures in
    buildable c.args.part.now c.args.matrix.now c.requires.storable c.in_ok-variables.variables c.in_ok-variables.ensures c.requires.few (countable c.args.part.now c.args.matrix.now c.requires.storable (sym long ∙ c.if-has_some_long_axis.false))
    c.as_slice-levels.result.now c.args.kinds.now c.as_slice-queries.result.now c.shape-shape.result c.entries-entries.result.now c.as_slice-levels.ensures c.requires.kinds c.as_slice-queries.ensures c.shape-shape.ensures.value
    c.entries-entries.ensures.value c.entries-entries.ensures.matrix

pub overflow_add-cells : goal.overflow_add-cells
overflow_add-cells c =
    let long : c.has_some_long_axis.result ≡ list_any (has_long_axis (shape_in c.args.matrix.now)) (map query_of c.args.part.now.queries) =
    c.has_some_long_axis.ensures ∙ ap₂ (λ (z : Shape) (l : List Query). list_any (has_long_axis z) (map query_of l)) (shape-same c.shape-shape.result c.args.matrix.now c.shape-shape.ensures.value) c.as_slice-queries.ensures in
    let pieces : c.in_ok-pieces.pieces ≡ min (size_on c.shape-shape.result c.entries-entries.result.now (plain_part c.args.part.now)) (limit + 1) =
    c.in_ok-pieces.ensures (plain_part c.args.part.now) (is-part c.args.part.now c.args.matrix.now c.requires.storable c.in_ok-variables.variables c.in_ok-variables.ensures c.requires.few (countable c.args.part.now c.args.matrix.now c.requires.storable (sym long ∙ c.if-has_some_long_axis.false)) c.as_slice-levels.result.now c.args.kinds.now c.as_slice-queries.result.now c.shape-shape.result c.entries-entries.result.now c.as_slice-levels.ensures c.requires.kinds c.as_slice-queries.ensures c.shape-shape.ensures.value c.entries-entries.ensures.value) in
    record { fits = omega (arith, c.queries_cells-cells.ensures, pieces) }

pub returns : goal.returns
returns c =
    let long : c.has_some_long_axis.result ≡ list_any (has_long_axis (shape_in c.args.matrix.now)) (map query_of c.args.part.now.queries) =
    c.has_some_long_axis.ensures ∙ ap₂ (λ (z : Shape) (l : List Query). list_any (has_long_axis z) (map query_of l)) (shape-same c.shape-shape.result c.args.matrix.now c.shape-shape.ensures.value) c.as_slice-queries.ensures in
    let pieces : c.in_ok-pieces.pieces ≡ min (size_on c.shape-shape.result c.entries-entries.result.now (plain_part c.args.part.now)) (limit + 1) =
    c.in_ok-pieces.ensures (plain_part c.args.part.now) (is-part c.args.part.now c.args.matrix.now c.requires.storable c.in_ok-variables.variables c.in_ok-variables.ensures c.requires.few (countable c.args.part.now c.args.matrix.now c.requires.storable (sym long ∙ c.if-has_some_long_axis.false)) c.as_slice-levels.result.now c.args.kinds.now c.as_slice-queries.result.now c.shape-shape.result c.entries-entries.result.now c.as_slice-levels.ensures c.requires.kinds c.as_slice-queries.ensures c.shape-shape.ensures.value c.entries-entries.ensures.value) in
    omega (
      arith,
      c.min.ensures,
      c.queries_cells-cells.ensures,
      pieces,
      cells-same c.args.part.now c.args.matrix.now c.requires.storable c.in_ok-variables.variables c.in_ok-variables.ensures c.requires.few (countable c.args.part.now c.args.matrix.now c.requires.storable (sym long ∙ c.if-has_some_long_axis.false)) c.as_slice-levels.result.now c.args.kinds.now c.as_slice-queries.result.now c.shape-shape.result c.entries-entries.result.now c.as_slice-levels.ensures c.requires.kinds c.as_slice-queries.ensures c.shape-shape.ensures.value c.entries-entries.ensures.value c.extents.result.now c.extents.ensures,
      pieces-same c.args.part.now c.args.matrix.now c.requires.storable c.in_ok-variables.variables c.in_ok-variables.ensures c.requires.few (countable c.args.part.now c.args.matrix.now c.requires.storable (sym long ∙ c.if-has_some_long_axis.false)) c.as_slice-levels.result.now c.args.kinds.now c.as_slice-queries.result.now c.shape-shape.result c.entries-entries.result.now c.as_slice-levels.ensures c.requires.kinds c.as_slice-queries.ensures c.shape-shape.ensures.value c.entries-entries.ensures.value,
      whole-is c.args.part.now c.args.matrix.now c.requires.storable c.in_ok-variables.variables c.in_ok-variables.ensures c.requires.few (countable c.args.part.now c.args.matrix.now c.requires.storable (sym long ∙ c.if-has_some_long_axis.false)) c.as_slice-levels.result.now c.args.kinds.now c.as_slice-queries.result.now c.shape-shape.result c.entries-entries.result.now c.as_slice-levels.ensures c.requires.kinds c.as_slice-queries.ensures c.shape-shape.ensures.value c.entries-entries.ensures.value,
    )
