use Rattle.us_gen_coordinates.proofs.Holding.{coordinates_held}
use Rattle.us_gen_coordinates.proofs.laws.coordinates_held.Goals as goal

pub returns : goal.returns
returns c = coordinates_held
