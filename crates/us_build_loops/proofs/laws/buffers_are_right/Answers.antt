use Rattle.us_build_loops.proofs.AllLevels.{buffers-right}
use Rattle.us_build_loops.proofs.laws.buffers_are_right.Goals as goal

pub returns : goal.returns
returns c = buffers-right
