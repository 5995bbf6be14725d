use Rattle.us_query_limits.proofs.Phases.{counts-keep-limits}
use Rattle.us_query_limits.proofs.laws.count_phases_keep_limits.Goals as goal

pub returns : goal.returns
returns c = counts-keep-limits
