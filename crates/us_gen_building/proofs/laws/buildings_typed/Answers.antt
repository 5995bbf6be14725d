use Rattle.us_gen_building.proofs.BuildingFits.{buildings_typed}
use Rattle.us_gen_building.proofs.laws.buildings_typed.Goals as goal

pub returns : goal.returns
returns c = buildings_typed
