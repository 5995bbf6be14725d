use Rattle.std.proofs.Common.{◌≤◌, ◌+◌, ◌*◌, List, map, length, ap, sym, subst, ◌∙◌, arith}
use Rattle.std.proofs.lemmas.List.{length-map}
use Rattle.us_expr.specs.Tree.{tree, RowIndex, ColIndex}
use Rattle.us_format.specs.Declaration.{query_of}
use Rattle.us_known.specs.declared.table.Node.{Node}
use Rattle.us_known.specs.Table.{trees, IsTable}
use Rattle.us_invert.proofs.Ending.{index-known, index-unknown, table-few}
use Rattle.us_invert.proofs.planning.plan.Goals as goal

pub make-requires-clause-small : goal.make-requires-clause-small
make-requires-clause-small c =
    let few : length c.as_slice-nodes.result.now ≤ 32 * (length c.args.levels.now + length c.args.queries.now) + 2 =
    table-few c.as_slice-nodes.result.now (map tree c.args.levels.now) (map query_of c.args.queries.now) (length c.args.levels.now) (length c.args.queries.now) (ap trees c.as_slice-nodes.ensures.value ∙ c.in_ok-table.ensures.trees) c.requires.small (length-map c.args.levels.now tree) (length-map c.args.queries.now query_of) in
    omega (arith, few, c.requires.levels, c.requires.queries)

pub returns-in_default-clause-rows : goal.returns-in_default-clause-rows
returns-in_default-clause-rows c _ =
    index-unknown c.as_slice-nodes.result.now (subst (λ (ns : List Node). IsTable ns) (sym c.as_slice-nodes.ensures.value) c.in_ok-table.ensures.table)
    c.in_ok-making.making c.in_ok-making.ensures.making (map tree c.args.levels.now) (map query_of c.args.queries.now) (length c.args.levels.now) RowIndex c.step_number.result
    c.in_ok-making.ensures.steps c.step_number.ensures c.in_default.not-Some

pub returns-in_default-step_number-clause-cols : goal.returns-in_default-step_number-clause-cols
returns-in_default-step_number-clause-cols c _ = (
  index-known c.as_slice-nodes.result.now (subst (λ (ns : List Node). IsTable ns) (sym c.as_slice-nodes.ensures.value) c.in_ok-table.ensures.table)
      c.in_ok-making.making c.in_ok-making.ensures.making (map tree c.args.levels.now) (map query_of c.args.queries.now) (length c.args.levels.now) RowIndex c.in-Some.rows_at
      c.in_ok-making.ensures.steps c.in-Some.ensures,
  index-unknown c.as_slice-nodes.result.now (subst (λ (ns : List Node). IsTable ns) (sym c.as_slice-nodes.ensures.value) c.in_ok-table.ensures.table)
      c.in_ok-making.making c.in_ok-making.ensures.making (map tree c.args.levels.now) (map query_of c.args.queries.now) (length c.args.levels.now) ColIndex c.step_number-2.result
      c.in_ok-making.ensures.steps c.step_number-2.ensures c.in_default-step_number.not-Some,
)

pub cut-requires-clause-few : goal.cut-requires-clause-few
cut-requires-clause-few c =
    let few : length c.as_slice-nodes.result.now ≤ 32 * (length c.args.levels.now + length c.args.queries.now) + 2 =
    table-few c.as_slice-nodes.result.now (map tree c.args.levels.now) (map query_of c.args.queries.now) (length c.args.levels.now) (length c.args.queries.now) (ap trees c.as_slice-nodes.ensures.value ∙ c.in_ok-table.ensures.trees) c.requires.small (length-map c.args.levels.now tree) (length-map c.args.queries.now query_of) in
    omega (arith, few, c.requires.levels, c.requires.queries)

pub returns-clause-row_known : goal.returns-clause-row_known
returns-clause-row_known c =
    index-known c.as_slice-nodes.result.now (subst (λ (ns : List Node). IsTable ns) (sym c.as_slice-nodes.ensures.value) c.in_ok-table.ensures.table)
    c.in_ok-making.making c.in_ok-making.ensures.making (map tree c.args.levels.now) (map query_of c.args.queries.now) (length c.args.levels.now) RowIndex c.in-Some.rows_at
    c.in_ok-making.ensures.steps c.in-Some.ensures

pub returns-clause-col_known : goal.returns-clause-col_known
returns-clause-col_known c =
    index-known c.as_slice-nodes.result.now (subst (λ (ns : List Node). IsTable ns) (sym c.as_slice-nodes.ensures.value) c.in_ok-table.ensures.table)
    c.in_ok-making.making c.in_ok-making.ensures.making (map tree c.args.levels.now) (map query_of c.args.queries.now) (length c.args.levels.now) ColIndex c.in-Some-step_number.cols_at
    c.in_ok-making.ensures.steps c.in-Some-step_number.ensures

pub returns-clause-few : goal.returns-clause-few
returns-clause-few c =
    let few : length c.as_slice-nodes.result.now ≤ 32 * (length c.args.levels.now + length c.args.queries.now) + 2 =
    table-few c.as_slice-nodes.result.now (map tree c.args.levels.now) (map query_of c.args.queries.now) (length c.args.levels.now) (length c.args.queries.now) (ap trees c.as_slice-nodes.ensures.value ∙ c.in_ok-table.ensures.trees) c.requires.small (length-map c.args.levels.now tree) (length-map c.args.queries.now query_of) in
    omega (arith, few, c.in_ok-cut.ensures.few)
