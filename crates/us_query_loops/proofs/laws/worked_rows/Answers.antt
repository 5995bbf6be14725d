use Rattle.us_query_loops.proofs.WorkedLoops.{worked-columns, worked-parts, worked-rows}
use Rattle.us_query_loops.proofs.laws.worked_rows.Goals as goal

pub returns : goal.returns
returns c = record { rows = worked-rows; columns = worked-columns; parts = worked-parts }
