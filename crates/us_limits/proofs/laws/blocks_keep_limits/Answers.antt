use Rattle.us_limits.proofs.Blocks.{blocks-keep-limits}
use Rattle.us_limits.proofs.laws.blocks_keep_limits.Goals as goal

pub returns : goal.returns
returns c = blocks-keep-limits
