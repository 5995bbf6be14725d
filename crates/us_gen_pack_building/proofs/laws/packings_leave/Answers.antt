use Rattle.us_gen_pack_building.proofs.Leaving.{packings_leave}
use Rattle.us_gen_pack_building.proofs.laws.packings_leave.Goals as goal

pub returns : goal.returns
returns c = packings_leave
