use Rattle.us_build_loops.proofs.AllLevels.{costs-linear}
use Rattle.us_build_loops.proofs.laws.costs_are_linear.Goals as goal

pub returns : goal.returns
returns c = costs-linear
