use Rattle.us_gen_coordinates.proofs.Leading.{coordinates_lead}
use Rattle.us_gen_coordinates.proofs.laws.coordinates_lead.Goals as goal

pub returns : goal.returns
returns c = coordinates_lead
