use Rattle.std.proofs.Common.{refl}
use Rattle.us_expr.specs.Tree.{tree}
use Rattle.us_format.specs.Program.{entries_in, shape_in}
use Rattle.us_variables.proofs.Steps.{adds-schedule}
use Rattle.us_variables.proofs.queries.count_schedule.Goals as goal

pub returns-clause-adds : goal.returns-clause-adds
returns-clause-adds c =
    adds-schedule (entries_in c.args.matrix.now) (shape_in c.args.matrix.now) c.args.lane c.args.slot (tree c.args.arg.now) c.axis_of-axis.result c.args.lanes c.in_ok-table.table c.args.columns.now.items
    c.push.new.self.items c.push-2.new.self.items (record { var = c.args.lane; numbers = c.in_ok-at_lanes.at_lanes }) (record { var = c.args.slot; numbers = c.in_ok-at_slots.at_slots }) c.axis_of-axis.ensures
    c.in_ok-table.ensures c.in_ok-push.ensures.items refl c.in_ok-at_lanes.ensures c.in_ok-push-2.ensures.items refl c.in_ok-at_slots.ensures
