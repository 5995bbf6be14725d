use Rattle.us_format.proofs.Whole.{buffers-are-counted}
use Rattle.us_format.proofs.laws.buffers_are_counted.Goals as goal

pub returns : goal.returns
returns c = buffers-are-counted
