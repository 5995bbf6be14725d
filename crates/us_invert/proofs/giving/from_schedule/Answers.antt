use Rattle.std.proofs.Common.{map, refl, sym, ap}
use Rattle.us_format.specs.Declaration.{query_of}
use Rattle.us_known.specs.Table.{tree_at, trees}
use Rattle.us_expr.specs.Tree.{Tree}
use Rattle.us_format.specs.Known.{from_schedule}
use Rattle.us_invert.proofs.FromNodes.{given-by, schedule-other, variable-at}
use Rattle.us_invert.proofs.giving.from_schedule.Goals as goal

pub from_schedules-requires-clause-variable : goal.from_schedules-requires-clause-variable
from_schedules-requires-clause-variable c = (variable-at c.args.nodes.now c.requires.table c.args.numbers.now (map query_of c.args.queries.now) c.args.e c.args.s c.in-Variable.v c.requires.node c.in-Variable.is).0

pub returns-in-Variable : goal.returns-in-Variable
returns-in-Variable c =
    given-by c.args.nodes.now c.args.numbers.now _ _ c.from_schedules.result c.from_schedules.ensures (λ known.
    sym (ap (λ (z : Tree). from_schedule (map query_of c.args.queries.now) known (tree_at (trees c.args.nodes.now) c.args.e) z)
    (variable-at c.args.nodes.now c.requires.table c.args.numbers.now (map query_of c.args.queries.now) c.args.e c.args.s c.in-Variable.v c.requires.node c.in-Variable.is).1))

pub returns-in_default : goal.returns-in_default
returns-in_default c = schedule-other c.args.nodes.now c.requires.table c.args.numbers.now (map query_of c.args.queries.now) c.args.e c.args.s _ c.requires.node refl c.in_default.not-Variable
