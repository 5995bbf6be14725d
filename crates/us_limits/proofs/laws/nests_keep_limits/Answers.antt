use Rattle.us_limits.proofs.Nests.{nests-keep-limits}
use Rattle.us_limits.proofs.laws.nests_keep_limits.Goals as goal

pub returns : goal.returns
returns c = nests-keep-limits
