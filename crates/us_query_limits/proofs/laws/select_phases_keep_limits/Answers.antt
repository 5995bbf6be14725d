use Rattle.us_query_limits.proofs.Phases.{selects-keep-limits}
use Rattle.us_query_limits.proofs.laws.select_phases_keep_limits.Goals as goal

pub returns : goal.returns
returns c = selects-keep-limits
