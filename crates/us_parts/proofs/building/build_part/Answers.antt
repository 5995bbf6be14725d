use Rattle.std.specs.Prelude.{ℤ}
use Rattle.std.specs.List.{list_any}
use Rattle.std.specs.Result.{IfOk, OnOk}
use Rattle.std.proofs.Common.{◌≡◌, ◌+◌, ◌-◌, ◌<◌, ◌≤◌, ℕ, List, length, map, All, sym, ap₂, subst, ◌∙◌, arith}
use Rattle.us_format.specs.Laws.{unpacked_size}
use Rattle.us_format.specs.Queries.{extent_of}
use Rattle.us_build.specs.declared.items.Item.{Item}
use Rattle.us_build.specs.declared.levels.Level.{Level}
use Rattle.us_build.specs.Items.{rows_at}
use Rattle.us_build.specs.Pieces.{AreRowsOf}
use Rattle.us_build.specs.Ready.{size_from}
use Rattle.us_build.specs.Sizes.{plain_levels}
use Rattle.us_expr.specs.declared.queries.Query.{Query}
use Rattle.us_format.specs.Declaration.{query_of}
use Rattle.us_format.specs.Matrix.{Shape}
use Rattle.us_format.specs.Program.{entries_in, shape_in}
use Rattle.us_format.specs.Reading.{limit}
use Rattle.us_judge.specs.Views.{plain_part}
use Rattle.us_parts.specs.Cells.{has_long_axis, queries_cells}
use Rattle.us_parts.proofs.Storing.{added-of, buildable, cells-same, countable, extents-long, extents-small, size-of, stored-of, tables-long, tables-short, shape-same, too-long, whole-is}
use Rattle.us_parts.proofs.building.build_part.Goals as goal

pub returns-then-has_some_long_axis-clause-large : goal.returns-then-has_some_long_axis-clause-large
returns-then-has_some_long_axis-clause-large c =
    let long : c.has_some_long_axis.result ≡ list_any (has_long_axis (shape_in c.args.matrix.now)) (map query_of c.args.part.now.queries) =
    c.has_some_long_axis.ensures ∙ ap₂ (λ (z : Shape) (l : List Query). list_any (has_long_axis z) (map query_of l)) (shape-same c.shape-shape.result c.args.matrix.now c.shape-shape.ensures.value) c.as_slice-queries.ensures in
    λ h. omega (arith, too-long c.args.part.now c.args.matrix.now c.requires.storable (sym long ∙ c.if-has_some_long_axis.true))

pub variables_of-requires-clause-countable : goal.variables_of-requires-clause-countable
variables_of-requires-clause-countable c =
    let long : c.has_some_long_axis.result ≡ list_any (has_long_axis (shape_in c.args.matrix.now)) (map query_of c.args.part.now.queries) =
    c.has_some_long_axis.ensures ∙ ap₂ (λ (z : Shape) (l : List Query). list_any (has_long_axis z) (map query_of l)) (shape-same c.shape-shape.result c.args.matrix.now c.shape-shape.ensures.value) c.as_slice-queries.ensures in
    countable c.args.part.now c.args.matrix.now c.requires.storable (sym long ∙ c.if-has_some_long_axis.false)

pub queries_cells-cells-requires-clause-small : goal.queries_cells-cells-requires-clause-small
queries_cells-cells-requires-clause-small c =
    let long : c.has_some_long_axis.result ≡ list_any (has_long_axis (shape_in c.args.matrix.now)) (map query_of c.args.part.now.queries) =
    c.has_some_long_axis.ensures ∙ ap₂ (λ (z : Shape) (l : List Query). list_any (has_long_axis z) (map query_of l)) (shape-same c.shape-shape.result c.args.matrix.now c.shape-shape.ensures.value) c.as_slice-queries.ensures in
    subst (λ (ns : List ℕ). All (λ n. n ≤ 67108864) ns) (sym c.extents.ensures)
    (extents-small c.args.part.now c.args.matrix.now c.requires.storable c.in_ok-variables.variables c.in_ok-variables.ensures c.requires.few (countable c.args.part.now c.args.matrix.now c.requires.storable (sym long ∙ c.if-has_some_long_axis.false)))

pub new-requires : goal.new-requires
new-requires c =
    let long : c.has_some_long_axis.result ≡ list_any (has_long_axis (shape_in c.args.matrix.now)) (map query_of c.args.part.now.queries) =
    c.has_some_long_axis.ensures ∙ ap₂ (λ (z : Shape) (l : List Query). list_any (has_long_axis z) (map query_of l)) (shape-same c.shape-shape.result c.args.matrix.now c.shape-shape.ensures.value) c.as_slice-queries.ensures in
    buildable c.args.part.now c.args.matrix.now c.requires.storable c.in_ok-variables.variables c.in_ok-variables.ensures c.requires.few (countable c.args.part.now c.args.matrix.now c.requires.storable (sym long ∙ c.if-has_some_long_axis.false))
    c.as_slice-levels.result.now c.args.kinds.now c.as_slice-queries.result.now c.shape-shape.result c.entries-entries.result.now c.as_slice-levels.ensures c.requires.kinds c.as_slice-queries.ensures c.shape-shape.ensures.value
    c.entries-entries.ensures.value c.entries-entries.ensures.matrix

pub returns-then-taken-gt-LIMIT-clause-large : goal.returns-then-taken-gt-LIMIT-clause-large
returns-then-taken-gt-LIMIT-clause-large c =
    let long : c.has_some_long_axis.result ≡ list_any (has_long_axis (shape_in c.args.matrix.now)) (map query_of c.args.part.now.queries) =
    c.has_some_long_axis.ensures ∙ ap₂ (λ (z : Shape) (l : List Query). list_any (has_long_axis z) (map query_of l)) (shape-same c.shape-shape.result c.args.matrix.now c.shape-shape.ensures.value) c.as_slice-queries.ensures in
    λ h. omega (arith, c.if-taken-gt-LIMIT.true, c.queries_cells-cells.ensures, cells-same c.args.part.now c.args.matrix.now c.requires.storable c.in_ok-variables.variables c.in_ok-variables.ensures c.requires.few (countable c.args.part.now c.args.matrix.now c.requires.storable (sym long ∙ c.if-has_some_long_axis.false)) c.as_slice-levels.result.now c.args.kinds.now c.as_slice-queries.result.now c.shape-shape.result c.entries-entries.result.now c.as_slice-levels.ensures c.requires.kinds c.as_slice-queries.ensures c.shape-shape.ensures.value c.entries-entries.ensures.value c.extents.result.now c.extents.ensures, whole-is c.args.part.now c.args.matrix.now c.requires.storable c.in_ok-variables.variables c.in_ok-variables.ensures c.requires.few (countable c.args.part.now c.args.matrix.now c.requires.storable (sym long ∙ c.if-has_some_long_axis.false)) c.as_slice-levels.result.now c.args.kinds.now c.as_slice-queries.result.now c.shape-shape.result c.entries-entries.result.now c.as_slice-levels.ensures c.requires.kinds c.as_slice-queries.ensures c.shape-shape.ensures.value c.entries-entries.ensures.value)

pub build_rows-requires-clause-extents : goal.build_rows-requires-clause-extents
build_rows-requires-clause-extents c =
    let long : c.has_some_long_axis.result ≡ list_any (has_long_axis (shape_in c.args.matrix.now)) (map query_of c.args.part.now.queries) =
    c.has_some_long_axis.ensures ∙ ap₂ (λ (z : Shape) (l : List Query). list_any (has_long_axis z) (map query_of l)) (shape-same c.shape-shape.result c.args.matrix.now c.shape-shape.ensures.value) c.as_slice-queries.ensures in
    extents-long c.args.part.now c.args.matrix.now c.requires.storable c.in_ok-variables.variables c.in_ok-variables.ensures c.requires.few (countable c.args.part.now c.args.matrix.now c.requires.storable (sym long ∙ c.if-has_some_long_axis.false))

pub build_rows-requires-clause-narrow : goal.build_rows-requires-clause-narrow
build_rows-requires-clause-narrow c =
    let long : c.has_some_long_axis.result ≡ list_any (has_long_axis (shape_in c.args.matrix.now)) (map query_of c.args.part.now.queries) =
    c.has_some_long_axis.ensures ∙ ap₂ (λ (z : Shape) (l : List Query). list_any (has_long_axis z) (map query_of l)) (shape-same c.shape-shape.result c.args.matrix.now c.shape-shape.ensures.value) c.as_slice-queries.ensures in
    extents-small c.args.part.now c.args.matrix.now c.requires.storable c.in_ok-variables.variables c.in_ok-variables.ensures c.requires.few (countable c.args.part.now c.args.matrix.now c.requires.storable (sym long ∙ c.if-has_some_long_axis.false))

pub build_rows-requires-clause-tables : goal.build_rows-requires-clause-tables
build_rows-requires-clause-tables c =
    let long : c.has_some_long_axis.result ≡ list_any (has_long_axis (shape_in c.args.matrix.now)) (map query_of c.args.part.now.queries) =
    c.has_some_long_axis.ensures ∙ ap₂ (λ (z : Shape) (l : List Query). list_any (has_long_axis z) (map query_of l)) (shape-same c.shape-shape.result c.args.matrix.now c.shape-shape.ensures.value) c.as_slice-queries.ensures in
    let few : queries_cells (shape_in c.args.matrix.now) (map query_of c.args.part.now.queries) (map (extent_of (entries_in c.args.matrix.now) (shape_in c.args.matrix.now)) (map query_of c.args.part.now.queries)) ≤ limit =
    omega (arith, c.if-taken-gt-LIMIT.false, c.queries_cells-cells.ensures, cells-same c.args.part.now c.args.matrix.now c.requires.storable c.in_ok-variables.variables c.in_ok-variables.ensures c.requires.few (countable c.args.part.now c.args.matrix.now c.requires.storable (sym long ∙ c.if-has_some_long_axis.false)) c.as_slice-levels.result.now c.args.kinds.now c.as_slice-queries.result.now c.shape-shape.result c.entries-entries.result.now c.as_slice-levels.ensures c.requires.kinds c.as_slice-queries.ensures c.shape-shape.ensures.value c.entries-entries.ensures.value c.extents.result.now c.extents.ensures) in
    tables-long c.args.part.now c.args.matrix.now c.requires.storable c.in_ok-variables.variables c.in_ok-variables.ensures c.requires.few (countable c.args.part.now c.args.matrix.now c.requires.storable (sym long ∙ c.if-has_some_long_axis.false)) c.as_slice-levels.result.now c.args.kinds.now c.as_slice-queries.result.now c.shape-shape.result c.entries-entries.result.now c.as_slice-levels.ensures c.requires.kinds c.as_slice-queries.ensures c.shape-shape.ensures.value c.entries-entries.ensures.value few

pub build_rows-requires-clause-short : goal.build_rows-requires-clause-short
build_rows-requires-clause-short c =
    let long : c.has_some_long_axis.result ≡ list_any (has_long_axis (shape_in c.args.matrix.now)) (map query_of c.args.part.now.queries) =
    c.has_some_long_axis.ensures ∙ ap₂ (λ (z : Shape) (l : List Query). list_any (has_long_axis z) (map query_of l)) (shape-same c.shape-shape.result c.args.matrix.now c.shape-shape.ensures.value) c.as_slice-queries.ensures in
    let few : queries_cells (shape_in c.args.matrix.now) (map query_of c.args.part.now.queries) (map (extent_of (entries_in c.args.matrix.now) (shape_in c.args.matrix.now)) (map query_of c.args.part.now.queries)) ≤ limit =
    omega (arith, c.if-taken-gt-LIMIT.false, c.queries_cells-cells.ensures, cells-same c.args.part.now c.args.matrix.now c.requires.storable c.in_ok-variables.variables c.in_ok-variables.ensures c.requires.few (countable c.args.part.now c.args.matrix.now c.requires.storable (sym long ∙ c.if-has_some_long_axis.false)) c.as_slice-levels.result.now c.args.kinds.now c.as_slice-queries.result.now c.shape-shape.result c.entries-entries.result.now c.as_slice-levels.ensures c.requires.kinds c.as_slice-queries.ensures c.shape-shape.ensures.value c.entries-entries.ensures.value c.extents.result.now c.extents.ensures) in
    tables-short c.args.part.now c.args.matrix.now c.requires.storable c.in_ok-variables.variables c.in_ok-variables.ensures c.requires.few (countable c.args.part.now c.args.matrix.now c.requires.storable (sym long ∙ c.if-has_some_long_axis.false)) c.as_slice-levels.result.now c.args.kinds.now c.as_slice-queries.result.now c.shape-shape.result c.entries-entries.result.now c.as_slice-levels.ensures c.requires.kinds c.as_slice-queries.ensures c.shape-shape.ensures.value c.entries-entries.ensures.value few

pub build_rows-requires-clause-levels : goal.build_rows-requires-clause-levels
build_rows-requires-clause-levels c =
    let long : c.has_some_long_axis.result ≡ list_any (has_long_axis (shape_in c.args.matrix.now)) (map query_of c.args.part.now.queries) =
    c.has_some_long_axis.ensures ∙ ap₂ (λ (z : Shape) (l : List Query). list_any (has_long_axis z) (map query_of l)) (shape-same c.shape-shape.result c.args.matrix.now c.shape-shape.ensures.value) c.as_slice-queries.ensures in
    let rows : AreRowsOf c.as_slice-levels.result.now c.args.kinds.now c.as_slice-queries.result.now c.in_ok-variables.variables c.shape-shape.result c.entries-entries.result.now c.deref.result.now c.deref_mut.result.now = (subst (λ (l : List Level). AreRowsOf c.as_slice-levels.result.now c.args.kinds.now c.as_slice-queries.result.now c.in_ok-variables.variables c.shape-shape.result c.entries-entries.result.now l c.deref_mut.result.now) (sym c.deref.ensures.value) (subst (λ (l : List Item). AreRowsOf c.as_slice-levels.result.now c.args.kinds.now c.as_slice-queries.result.now c.in_ok-variables.variables c.shape-shape.result c.entries-entries.result.now c.in_ok-made.field-0.levels.items l) (sym c.deref_mut.ensures.value) c.in_ok-made.ensures)) in
    rows.count

pub build_rows-requires-clause-sizes : goal.build_rows-requires-clause-sizes
build_rows-requires-clause-sizes c =
    let long : c.has_some_long_axis.result ≡ list_any (has_long_axis (shape_in c.args.matrix.now)) (map query_of c.args.part.now.queries) =
    c.has_some_long_axis.ensures ∙ ap₂ (λ (z : Shape) (l : List Query). list_any (has_long_axis z) (map query_of l)) (shape-same c.shape-shape.result c.args.matrix.now c.shape-shape.ensures.value) c.as_slice-queries.ensures in
    let rows : AreRowsOf c.as_slice-levels.result.now c.args.kinds.now c.as_slice-queries.result.now c.in_ok-variables.variables c.shape-shape.result c.entries-entries.result.now c.deref.result.now c.deref_mut.result.now = (subst (λ (l : List Level). AreRowsOf c.as_slice-levels.result.now c.args.kinds.now c.as_slice-queries.result.now c.in_ok-variables.variables c.shape-shape.result c.entries-entries.result.now l c.deref_mut.result.now) (sym c.deref.ensures.value) (subst (λ (l : List Item). AreRowsOf c.as_slice-levels.result.now c.args.kinds.now c.as_slice-queries.result.now c.in_ok-variables.variables c.shape-shape.result c.entries-entries.result.now c.in_ok-made.field-0.levels.items l) (sym c.deref_mut.ensures.value) c.in_ok-made.ensures)) in
    rows.sizes

pub build_rows-requires-clause-few : goal.build_rows-requires-clause-few
build_rows-requires-clause-few c =
    let long : c.has_some_long_axis.result ≡ list_any (has_long_axis (shape_in c.args.matrix.now)) (map query_of c.args.part.now.queries) =
    c.has_some_long_axis.ensures ∙ ap₂ (λ (z : Shape) (l : List Query). list_any (has_long_axis z) (map query_of l)) (shape-same c.shape-shape.result c.args.matrix.now c.shape-shape.ensures.value) c.as_slice-queries.ensures in
    let rows : AreRowsOf c.as_slice-levels.result.now c.args.kinds.now c.as_slice-queries.result.now c.in_ok-variables.variables c.shape-shape.result c.entries-entries.result.now c.deref.result.now c.deref_mut.result.now = (subst (λ (l : List Level). AreRowsOf c.as_slice-levels.result.now c.args.kinds.now c.as_slice-queries.result.now c.in_ok-variables.variables c.shape-shape.result c.entries-entries.result.now l c.deref_mut.result.now) (sym c.deref.ensures.value) (subst (λ (l : List Item). AreRowsOf c.as_slice-levels.result.now c.args.kinds.now c.as_slice-queries.result.now c.in_ok-variables.variables c.shape-shape.result c.entries-entries.result.now c.in_ok-made.field-0.levels.items l) (sym c.deref_mut.ensures.value) c.in_ok-made.ensures)) in
    rows.few

pub build_rows-requires-clause-ready : goal.build_rows-requires-clause-ready
build_rows-requires-clause-ready c =
    let long : c.has_some_long_axis.result ≡ list_any (has_long_axis (shape_in c.args.matrix.now)) (map query_of c.args.part.now.queries) =
    c.has_some_long_axis.ensures ∙ ap₂ (λ (z : Shape) (l : List Query). list_any (has_long_axis z) (map query_of l)) (shape-same c.shape-shape.result c.args.matrix.now c.shape-shape.ensures.value) c.as_slice-queries.ensures in
    let rows : AreRowsOf c.as_slice-levels.result.now c.args.kinds.now c.as_slice-queries.result.now c.in_ok-variables.variables c.shape-shape.result c.entries-entries.result.now c.deref.result.now c.deref_mut.result.now = (subst (λ (l : List Level). AreRowsOf c.as_slice-levels.result.now c.args.kinds.now c.as_slice-queries.result.now c.in_ok-variables.variables c.shape-shape.result c.entries-entries.result.now l c.deref_mut.result.now) (sym c.deref.ensures.value) (subst (λ (l : List Item). AreRowsOf c.as_slice-levels.result.now c.args.kinds.now c.as_slice-queries.result.now c.in_ok-variables.variables c.shape-shape.result c.entries-entries.result.now c.in_ok-made.field-0.levels.items l) (sym c.deref_mut.ensures.value) c.in_ok-made.ensures)) in
    rows.ready

pub build_rows-requires-clause-unmoved : goal.build_rows-requires-clause-unmoved
build_rows-requires-clause-unmoved c =
    let long : c.has_some_long_axis.result ≡ list_any (has_long_axis (shape_in c.args.matrix.now)) (map query_of c.args.part.now.queries) =
    c.has_some_long_axis.ensures ∙ ap₂ (λ (z : Shape) (l : List Query). list_any (has_long_axis z) (map query_of l)) (shape-same c.shape-shape.result c.args.matrix.now c.shape-shape.ensures.value) c.as_slice-queries.ensures in
    let rows : AreRowsOf c.as_slice-levels.result.now c.args.kinds.now c.as_slice-queries.result.now c.in_ok-variables.variables c.shape-shape.result c.entries-entries.result.now c.deref.result.now c.deref_mut.result.now = (subst (λ (l : List Level). AreRowsOf c.as_slice-levels.result.now c.args.kinds.now c.as_slice-queries.result.now c.in_ok-variables.variables c.shape-shape.result c.entries-entries.result.now l c.deref_mut.result.now) (sym c.deref.ensures.value) (subst (λ (l : List Item). AreRowsOf c.as_slice-levels.result.now c.args.kinds.now c.as_slice-queries.result.now c.in_ok-variables.variables c.shape-shape.result c.entries-entries.result.now c.in_ok-made.field-0.levels.items l) (sym c.deref_mut.ensures.value) c.in_ok-made.ensures)) in
    rows.unmoved

pub build_rows-requires-clause-stored : goal.build_rows-requires-clause-stored
build_rows-requires-clause-stored c =
    let long : c.has_some_long_axis.result ≡ list_any (has_long_axis (shape_in c.args.matrix.now)) (map query_of c.args.part.now.queries) =
    c.has_some_long_axis.ensures ∙ ap₂ (λ (z : Shape) (l : List Query). list_any (has_long_axis z) (map query_of l)) (shape-same c.shape-shape.result c.args.matrix.now c.shape-shape.ensures.value) c.as_slice-queries.ensures in
    let rows : AreRowsOf c.as_slice-levels.result.now c.args.kinds.now c.as_slice-queries.result.now c.in_ok-variables.variables c.shape-shape.result c.entries-entries.result.now c.deref.result.now c.deref_mut.result.now = (subst (λ (l : List Level). AreRowsOf c.as_slice-levels.result.now c.args.kinds.now c.as_slice-queries.result.now c.in_ok-variables.variables c.shape-shape.result c.entries-entries.result.now l c.deref_mut.result.now) (sym c.deref.ensures.value) (subst (λ (l : List Item). AreRowsOf c.as_slice-levels.result.now c.args.kinds.now c.as_slice-queries.result.now c.in_ok-variables.variables c.shape-shape.result c.entries-entries.result.now c.in_ok-made.field-0.levels.items l) (sym c.deref_mut.ensures.value) c.in_ok-made.ensures)) in
    stored-of c.args.part.now c.args.matrix.now c.requires.storable c.in_ok-variables.variables c.in_ok-variables.ensures c.requires.few (countable c.args.part.now c.args.matrix.now c.requires.storable (sym long ∙ c.if-has_some_long_axis.false)) c.as_slice-levels.result.now c.args.kinds.now c.as_slice-queries.result.now c.shape-shape.result c.entries-entries.result.now c.as_slice-levels.ensures c.requires.kinds c.as_slice-queries.ensures c.shape-shape.ensures.value c.entries-entries.ensures.value c.deref.result.now c.deref_mut.result.now rows

pub returns-clause-built : goal.returns-clause-built
returns-clause-built c =
    let long : c.has_some_long_axis.result ≡ list_any (has_long_axis (shape_in c.args.matrix.now)) (map query_of c.args.part.now.queries) =
    c.has_some_long_axis.ensures ∙ ap₂ (λ (z : Shape) (l : List Query). list_any (has_long_axis z) (map query_of l)) (shape-same c.shape-shape.result c.args.matrix.now c.shape-shape.ensures.value) c.as_slice-queries.ensures in
    let rows : AreRowsOf c.as_slice-levels.result.now c.args.kinds.now c.as_slice-queries.result.now c.in_ok-variables.variables c.shape-shape.result c.entries-entries.result.now c.deref.result.now c.deref_mut.result.now = (subst (λ (l : List Level). AreRowsOf c.as_slice-levels.result.now c.args.kinds.now c.as_slice-queries.result.now c.in_ok-variables.variables c.shape-shape.result c.entries-entries.result.now l c.deref_mut.result.now) (sym c.deref.ensures.value) (subst (λ (l : List Item). AreRowsOf c.as_slice-levels.result.now c.args.kinds.now c.as_slice-queries.result.now c.in_ok-variables.variables c.shape-shape.result c.entries-entries.result.now c.in_ok-made.field-0.levels.items l) (sym c.deref_mut.ensures.value) c.in_ok-made.ensures)) in
    subst (λ (l : List (List ℤ)). OnOk c.build_rows.result (c.build_rows.new.lists ≡ l))
    (added-of c.args.part.now c.args.matrix.now c.requires.storable c.in_ok-variables.variables c.in_ok-variables.ensures c.requires.few (countable c.args.part.now c.args.matrix.now c.requires.storable (sym long ∙ c.if-has_some_long_axis.false)) c.as_slice-levels.result.now c.args.kinds.now c.as_slice-queries.result.now c.shape-shape.result c.entries-entries.result.now c.as_slice-levels.ensures c.requires.kinds c.as_slice-queries.ensures c.shape-shape.ensures.value c.entries-entries.ensures.value c.deref.result.now c.deref_mut.result.now rows c.args.lists.now)
    c.build_rows.ensures.built

pub returns-clause-used : goal.returns-clause-used
returns-clause-used c =
    let long : c.has_some_long_axis.result ≡ list_any (has_long_axis (shape_in c.args.matrix.now)) (map query_of c.args.part.now.queries) =
    c.has_some_long_axis.ensures ∙ ap₂ (λ (z : Shape) (l : List Query). list_any (has_long_axis z) (map query_of l)) (shape-same c.shape-shape.result c.args.matrix.now c.shape-shape.ensures.value) c.as_slice-queries.ensures in
    let rows : AreRowsOf c.as_slice-levels.result.now c.args.kinds.now c.as_slice-queries.result.now c.in_ok-variables.variables c.shape-shape.result c.entries-entries.result.now c.deref.result.now c.deref_mut.result.now = (subst (λ (l : List Level). AreRowsOf c.as_slice-levels.result.now c.args.kinds.now c.as_slice-queries.result.now c.in_ok-variables.variables c.shape-shape.result c.entries-entries.result.now l c.deref_mut.result.now) (sym c.deref.ensures.value) (subst (λ (l : List Item). AreRowsOf c.as_slice-levels.result.now c.args.kinds.now c.as_slice-queries.result.now c.in_ok-variables.variables c.shape-shape.result c.entries-entries.result.now c.in_ok-made.field-0.levels.items l) (sym c.deref_mut.ensures.value) c.in_ok-made.ensures)) in
    let total : c.args.used + c.queries_cells-cells.result + size_from (plain_levels c.deref.result.now) 1 (rows_at (6 - length c.deref.result.now) c.deref_mut.result.now) ≡ c.args.used + unpacked_size (shape_in c.args.matrix.now) (plain_part c.args.part.now) (entries_in c.args.matrix.now) =
    omega (arith, c.if-taken-gt-LIMIT.false, c.queries_cells-cells.ensures, cells-same c.args.part.now c.args.matrix.now c.requires.storable c.in_ok-variables.variables c.in_ok-variables.ensures c.requires.few (countable c.args.part.now c.args.matrix.now c.requires.storable (sym long ∙ c.if-has_some_long_axis.false)) c.as_slice-levels.result.now c.args.kinds.now c.as_slice-queries.result.now c.shape-shape.result c.entries-entries.result.now c.as_slice-levels.ensures c.requires.kinds c.as_slice-queries.ensures c.shape-shape.ensures.value c.entries-entries.ensures.value c.extents.result.now c.extents.ensures, size-of c.args.part.now c.args.matrix.now c.requires.storable c.in_ok-variables.variables c.in_ok-variables.ensures c.requires.few (countable c.args.part.now c.args.matrix.now c.requires.storable (sym long ∙ c.if-has_some_long_axis.false)) c.as_slice-levels.result.now c.args.kinds.now c.as_slice-queries.result.now c.shape-shape.result c.entries-entries.result.now c.as_slice-levels.ensures c.requires.kinds c.as_slice-queries.ensures c.shape-shape.ensures.value c.entries-entries.ensures.value c.deref.result.now c.deref_mut.result.now rows, whole-is c.args.part.now c.args.matrix.now c.requires.storable c.in_ok-variables.variables c.in_ok-variables.ensures c.requires.few (countable c.args.part.now c.args.matrix.now c.requires.storable (sym long ∙ c.if-has_some_long_axis.false)) c.as_slice-levels.result.now c.args.kinds.now c.as_slice-queries.result.now c.shape-shape.result c.entries-entries.result.now c.as_slice-levels.ensures c.requires.kinds c.as_slice-queries.ensures c.shape-shape.ensures.value c.entries-entries.ensures.value) in
    subst (λ (m : ℕ). IfOk c.build_rows.result (λ n. n ≡ m)) total c.build_rows.ensures.used

pub returns-clause-large : goal.returns-clause-large
returns-clause-large c =
    let long : c.has_some_long_axis.result ≡ list_any (has_long_axis (shape_in c.args.matrix.now)) (map query_of c.args.part.now.queries) =
    c.has_some_long_axis.ensures ∙ ap₂ (λ (z : Shape) (l : List Query). list_any (has_long_axis z) (map query_of l)) (shape-same c.shape-shape.result c.args.matrix.now c.shape-shape.ensures.value) c.as_slice-queries.ensures in
    let rows : AreRowsOf c.as_slice-levels.result.now c.args.kinds.now c.as_slice-queries.result.now c.in_ok-variables.variables c.shape-shape.result c.entries-entries.result.now c.deref.result.now c.deref_mut.result.now = (subst (λ (l : List Level). AreRowsOf c.as_slice-levels.result.now c.args.kinds.now c.as_slice-queries.result.now c.in_ok-variables.variables c.shape-shape.result c.entries-entries.result.now l c.deref_mut.result.now) (sym c.deref.ensures.value) (subst (λ (l : List Item). AreRowsOf c.as_slice-levels.result.now c.args.kinds.now c.as_slice-queries.result.now c.in_ok-variables.variables c.shape-shape.result c.entries-entries.result.now c.in_ok-made.field-0.levels.items l) (sym c.deref_mut.ensures.value) c.in_ok-made.ensures)) in
    let total : c.args.used + c.queries_cells-cells.result + size_from (plain_levels c.deref.result.now) 1 (rows_at (6 - length c.deref.result.now) c.deref_mut.result.now) ≡ c.args.used + unpacked_size (shape_in c.args.matrix.now) (plain_part c.args.part.now) (entries_in c.args.matrix.now) =
    omega (arith, c.if-taken-gt-LIMIT.false, c.queries_cells-cells.ensures, cells-same c.args.part.now c.args.matrix.now c.requires.storable c.in_ok-variables.variables c.in_ok-variables.ensures c.requires.few (countable c.args.part.now c.args.matrix.now c.requires.storable (sym long ∙ c.if-has_some_long_axis.false)) c.as_slice-levels.result.now c.args.kinds.now c.as_slice-queries.result.now c.shape-shape.result c.entries-entries.result.now c.as_slice-levels.ensures c.requires.kinds c.as_slice-queries.ensures c.shape-shape.ensures.value c.entries-entries.ensures.value c.extents.result.now c.extents.ensures, size-of c.args.part.now c.args.matrix.now c.requires.storable c.in_ok-variables.variables c.in_ok-variables.ensures c.requires.few (countable c.args.part.now c.args.matrix.now c.requires.storable (sym long ∙ c.if-has_some_long_axis.false)) c.as_slice-levels.result.now c.args.kinds.now c.as_slice-queries.result.now c.shape-shape.result c.entries-entries.result.now c.as_slice-levels.ensures c.requires.kinds c.as_slice-queries.ensures c.shape-shape.ensures.value c.entries-entries.ensures.value c.deref.result.now c.deref_mut.result.now rows, whole-is c.args.part.now c.args.matrix.now c.requires.storable c.in_ok-variables.variables c.in_ok-variables.ensures c.requires.few (countable c.args.part.now c.args.matrix.now c.requires.storable (sym long ∙ c.if-has_some_long_axis.false)) c.as_slice-levels.result.now c.args.kinds.now c.as_slice-queries.result.now c.shape-shape.result c.entries-entries.result.now c.as_slice-levels.ensures c.requires.kinds c.as_slice-queries.ensures c.shape-shape.ensures.value c.entries-entries.ensures.value) in
    λ h. subst (λ (n : ℕ). limit < n) total (c.build_rows.ensures.large h)
