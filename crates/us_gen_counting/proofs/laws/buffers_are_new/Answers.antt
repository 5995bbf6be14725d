use Rattle.us_gen_counting.proofs.Apart.{buffers_are_new}
use Rattle.us_gen_counting.proofs.laws.buffers_are_new.Goals as goal

pub returns : goal.returns
returns c = buffers_are_new
