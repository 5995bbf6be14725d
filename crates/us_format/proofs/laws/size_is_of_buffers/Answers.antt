use Rattle.us_format.proofs.Whole.{size-is-of-buffers}
use Rattle.us_format.proofs.laws.size_is_of_buffers.Goals as goal

pub returns : goal.returns
returns c = size-is-of-buffers
