use Rattle.us_gen_pack_building.proofs.Building.{packings_build}
use Rattle.us_gen_pack_building.proofs.laws.packings_build.Goals as goal

pub returns : goal.returns
returns c = packings_build
