use Rattle.us_gen_pack_building.proofs.Fits.{packings_typed}
use Rattle.us_gen_pack_building.proofs.laws.packings_typed.Goals as goal

pub returns : goal.returns
returns c = packings_typed
