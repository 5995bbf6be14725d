use Rattle.us_gen.proofs.Going.{dim_lines}
use Rattle.us_gen.proofs.laws.dim_lines_add_dims.Goals as goal

pub returns : goal.returns
returns c = dim_lines
