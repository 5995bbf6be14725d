use Rattle.us_gen_query.proofs.SchedulesFit.{schedule_typed}
use Rattle.us_gen_query.proofs.laws.schedule_typed.Goals as goal

pub returns : goal.returns
returns c = schedule_typed
