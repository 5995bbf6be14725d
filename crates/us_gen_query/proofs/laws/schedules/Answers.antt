use Rattle.us_gen_query.proofs.SchedulesRun.{schedules}
use Rattle.us_gen_query.proofs.laws.schedules.Goals as goal

pub returns : goal.returns
returns c = schedules
