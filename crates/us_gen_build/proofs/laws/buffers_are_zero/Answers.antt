use Rattle.us_gen_build.proofs.Making.{buffers_are_zero}
use Rattle.us_gen_build.proofs.laws.buffers_are_zero.Goals as goal

pub returns : goal.returns
returns c = buffers_are_zero
