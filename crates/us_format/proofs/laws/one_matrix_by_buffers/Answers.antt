use Rattle.us_format.proofs.Whole.{one-matrix-by-buffers}
use Rattle.us_format.proofs.laws.one_matrix_by_buffers.Goals as goal

pub returns : goal.returns
returns c = one-matrix-by-buffers
