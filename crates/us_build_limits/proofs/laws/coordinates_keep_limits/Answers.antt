use Rattle.us_build_limits.proofs.Columns.{coordinates-keep-limits}
use Rattle.us_build_limits.proofs.laws.coordinates_keep_limits.Goals as goal

pub returns : goal.returns
returns c = coordinates-keep-limits
