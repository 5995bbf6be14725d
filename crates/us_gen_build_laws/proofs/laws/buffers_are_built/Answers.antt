use Rattle.us_gen_build_laws.proofs.Levels.{buffers-built}
use Rattle.us_gen_build_laws.proofs.laws.buffers_are_built.Goals as goal

pub returns : goal.returns
returns c = buffers-built
