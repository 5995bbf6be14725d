use Rattle.us_status.proofs.line.push_operand.Goals as goal

pub returns-then-columns : goal.returns-then-columns
returns-then-columns c = rw c.if-columns.true c.push_columns.ensures

pub returns-else-columns : goal.returns-else-columns
returns-else-columns c = rw c.if-columns.false c.push_rows.ensures
