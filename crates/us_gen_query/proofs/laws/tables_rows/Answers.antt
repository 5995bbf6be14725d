use Rattle.us_gen_query.proofs.RowsRun.{tables_rows}
use Rattle.us_gen_query.proofs.laws.tables_rows.Goals as goal

pub returns : goal.returns
returns c = tables_rows
