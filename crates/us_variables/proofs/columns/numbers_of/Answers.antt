use Rattle.std.proofs.Common.{get_or}
use Rattle.us_format.specs.Matrix.{index_at}
use Rattle.us_variables.proofs.Values.{column-end}
use Rattle.us_variables.proofs.columns.numbers_of.Goals as goal

pub returns-clause-numbers : goal.returns-clause-numbers
returns-clause-numbers c =
    column-end (λ x. get_or c.args.numbers.now (index_at c.args.axis x) 0) c.args.matrix.now c.entries-entries.result.now c.loop-t.t-index c.loop-t.column.items c.loop-t-test.false c.entries-entries.ensures.value
    c.loop-t.invariant
