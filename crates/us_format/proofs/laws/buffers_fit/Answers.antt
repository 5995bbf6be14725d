use Rattle.us_format.proofs.Whole.{buffers-fit}
use Rattle.us_format.proofs.laws.buffers_fit.Goals as goal

pub returns : goal.returns
returns c = buffers-fit
