use Rattle.us_format.proofs.Whole.{buffers-mean-matrix}
use Rattle.us_format.proofs.laws.buffers_mean_matrix.Goals as goal

pub returns : goal.returns
returns c = buffers-mean-matrix
