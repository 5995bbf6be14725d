use Rattle.us_format_loops.proofs.Filled.{slots-keep-positions}
use Rattle.us_format_loops.proofs.laws.slots_keep_positions.Goals as goal

pub returns : goal.returns
returns c = slots-keep-positions
