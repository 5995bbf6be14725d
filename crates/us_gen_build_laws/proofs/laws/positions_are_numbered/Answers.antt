use Rattle.us_gen_build_laws.proofs.Levels.{positions-numbered}
use Rattle.us_gen_build_laws.proofs.laws.positions_are_numbered.Goals as goal

pub returns : goal.returns
returns c = positions-numbered
