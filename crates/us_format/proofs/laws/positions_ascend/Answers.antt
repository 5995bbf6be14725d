use Rattle.us_format.proofs.Lawful.{positions-ascend}
use Rattle.us_format.proofs.laws.positions_ascend.Goals as goal

pub returns : goal.returns
returns c = positions-ascend
