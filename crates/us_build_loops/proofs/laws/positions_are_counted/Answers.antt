use Rattle.us_build_loops.proofs.AllLevels.{positions-counted}
use Rattle.us_build_loops.proofs.laws.positions_are_counted.Goals as goal

pub returns : goal.returns
returns c = positions-counted
