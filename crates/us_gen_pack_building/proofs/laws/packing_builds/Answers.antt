use Rattle.us_gen_pack_building.proofs.Building.{packing_builds}
use Rattle.us_gen_pack_building.proofs.laws.packing_builds.Goals as goal

pub returns : goal.returns
returns c = packing_builds
