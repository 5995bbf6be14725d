use Rattle.us_gen_building.proofs.Enough.{keys_enough}
use Rattle.us_gen_building.proofs.laws.keys_are_enough.Goals as goal

pub returns : goal.returns
returns c = keys_enough
