use Rattle.us_build_limits.proofs.Phases.{buildings-keep-limits}
use Rattle.us_build_limits.proofs.laws.buildings_keep_limits.Goals as goal

pub returns : goal.returns
returns c = buildings-keep-limits
