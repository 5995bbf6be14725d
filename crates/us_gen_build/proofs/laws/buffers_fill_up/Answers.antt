use Rattle.us_gen_build.proofs.FillingUp.{buffers_fill_up}
use Rattle.us_gen_build.proofs.laws.buffers_fill_up.Goals as goal

pub returns : goal.returns
returns c = buffers_fill_up
