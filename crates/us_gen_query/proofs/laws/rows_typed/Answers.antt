use Rattle.us_gen_query.proofs.SchedulesFit.{rows_typed}
use Rattle.us_gen_query.proofs.laws.rows_typed.Goals as goal

pub returns : goal.returns
returns c = rows_typed
