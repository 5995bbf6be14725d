use Rattle.std.proofs.Common.{refl}
use Rattle.us_expr.specs.Tree.{tree}
use Rattle.us_format.specs.Program.{entries_in, shape_in}
use Rattle.us_variables.proofs.Steps.{adds-sum}
use Rattle.us_variables.proofs.queries.count_sum.Goals as goal

pub returns : goal.returns
returns c =
    adds-sum (entries_in c.args.matrix.now) (shape_in c.args.matrix.now) c.args.var (tree c.args.arg.now) c.args.columns.now.items c.push.new.self.items
    (record { var = c.args.var; numbers = c.in_ok-numbers.numbers }) c.in_ok-push.ensures.items refl c.in_ok-numbers.ensures
