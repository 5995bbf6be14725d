use Rattle.us_gen_build.proofs.Making.{makes_typed}
use Rattle.us_gen_build.proofs.laws.makes_typed.Goals as goal

pub returns : goal.returns
returns c = makes_typed
