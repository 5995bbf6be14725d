use Rattle.std.proofs.Common.{refl, sym, subst, ap, ◌∙◌}
use Rattle.us_expr.specs.declared.queries.Query.{Query as QueryCode}
use Rattle.us_expr.specs.Tree.{tree}
use Rattle.us_format.specs.Declaration.{query_of}
use Rattle.us_format.specs.Program.{entries_in, shape_in}
use Rattle.us_query.specs.Lanes.{Lanes, extent_in}
use Rattle.us_variables.specs.declared.tables.Table.TheVariants.{Order, Scheduled}
use Rattle.us_variables.specs.Columns.{Adds}
use Rattle.us_variables.specs.Counted.{IsCounted}
use Rattle.us_variables.proofs.Steps.{lane-cells, order-cells}
use Rattle.us_variables.proofs.queries.count.Goals as goal

pub returns-in_ok-order-in-Reorder-clause-adds : goal.returns-in_ok-order-in-Reorder-clause-adds
returns-in_ok-order-in-Reorder-clause-adds c =
    subst (λ (q : QueryCode). Adds (entries_in c.args.matrix.now) (shape_in c.args.matrix.now) (query_of q) c.args.columns.now.items c.count_reorder.new.columns.items) (sym c.in-Reorder.is)
    c.in_ok-order-in-Reorder.ensures.adds

pub returns-in_ok-order-in-Reorder-clause-counted : goal.returns-in_ok-order-in-Reorder-clause-counted
returns-in_ok-order-in-Reorder-clause-counted c =
    let m = entries_in c.args.matrix.now in
    let s = shape_in c.args.matrix.now in
    subst (λ (q : QueryCode). IsCounted m s (query_of q) (record { extent = 0; table = Order c.in_ok-order-in-Reorder.order })) (sym c.in-Reorder.is)
    (record { extent = refl; table = order-cells m s c.in-Reorder.var (tree c.in-Reorder.arg) c.in_ok-order-in-Reorder.order.items c.in_ok-order-in-Reorder.ensures.order })

pub returns-in_ok-table-in-Schedule-clause-counted : goal.returns-in_ok-table-in-Schedule-clause-counted
returns-in_ok-table-in-Schedule-clause-counted c =
    let m = entries_in c.args.matrix.now in
    let s = shape_in c.args.matrix.now in
    subst (λ (q : QueryCode). IsCounted m s (query_of q) (record { extent = c.from.result; table = Scheduled c.in_ok-table-in-Schedule.table })) (sym c.in-Schedule.is)
    (record {
      extent = c.from.ensures ∙ c.extent.ensures ∙ ap (λ (t : Lanes). extent_in t.lanes) c.in_ok-table-in-Schedule.ensures.table;
      table = lane-cells m s c.in-Schedule.lane c.in-Schedule.slot (tree c.in-Schedule.arg) c.in-Schedule.lanes c.in_ok-table-in-Schedule.table c.in_ok-table-in-Schedule.ensures.table;
    })
