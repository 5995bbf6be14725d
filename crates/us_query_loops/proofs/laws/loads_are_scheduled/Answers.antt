use Rattle.us_query_loops.proofs.Scheduling.{loads-are-scheduled}
use Rattle.us_query_loops.proofs.laws.loads_are_scheduled.Goals as goal

pub returns : goal.returns
returns c = loads-are-scheduled
