use Rattle.us_gen_building.proofs.Building.{phases_build}
use Rattle.us_gen_building.proofs.laws.phases_build.Goals as goal

pub returns : goal.returns
returns c = phases_build
