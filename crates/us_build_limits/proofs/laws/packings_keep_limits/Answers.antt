use Rattle.us_build_limits.proofs.Phases.{packings-keep-limits}
use Rattle.us_build_limits.proofs.laws.packings_keep_limits.Goals as goal

pub returns : goal.returns
returns c = packings-keep-limits
