use Rattle.us_gen_coordinates.proofs.Typed.{coordinates_typed}
use Rattle.us_gen_coordinates.proofs.laws.coordinates_typed.Goals as goal

pub returns : goal.returns
returns c = coordinates_typed
