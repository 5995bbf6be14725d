use Rattle.us_gen_building.proofs.Building.{building_builds}
use Rattle.us_gen_building.proofs.laws.building_builds.Goals as goal

pub returns : goal.returns
returns c = building_builds
