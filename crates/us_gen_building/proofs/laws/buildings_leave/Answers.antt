use Rattle.us_gen_building.proofs.Leaving.{buildings_leave}
use Rattle.us_gen_building.proofs.laws.buildings_leave.Goals as goal

pub returns : goal.returns
returns c = buildings_leave
