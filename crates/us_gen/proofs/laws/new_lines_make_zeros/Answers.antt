use Rattle.us_gen.proofs.Going.{new_lines}
use Rattle.us_gen.proofs.laws.new_lines_make_zeros.Goals as goal

pub returns : goal.returns
returns c = new_lines
