use Rattle.us_build_limits.proofs.Phases.{keys-fit-levels}
use Rattle.us_build_limits.proofs.laws.keys_of_levels_fit.Goals as goal

pub returns : goal.returns
returns c = keys-fit-levels
