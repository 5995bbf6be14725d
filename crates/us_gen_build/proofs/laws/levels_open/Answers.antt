use Rattle.us_gen_build.proofs.Opening.{levels_open}
use Rattle.us_gen_build.proofs.laws.levels_open.Goals as goal

pub returns : goal.returns
returns c = levels_open
