use Rattle.us_build_loops.proofs.AllLevels.{needs-met}
use Rattle.us_build_loops.proofs.laws.needs_are_met.Goals as goal

pub returns : goal.returns
returns c = needs-met
