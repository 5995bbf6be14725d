use Rattle.us_limits.proofs.Phases.{phases-keep-limits}
use Rattle.us_limits.proofs.laws.phases_keep_limits.Goals as goal

pub returns : goal.returns
returns c = phases-keep-limits
