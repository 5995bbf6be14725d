use Rattle.us_build_limits.proofs.Columns.{extents-keep-limits}
use Rattle.us_build_limits.proofs.laws.extents_keep_limits.Goals as goal

pub returns : goal.returns
returns c = extents-keep-limits
