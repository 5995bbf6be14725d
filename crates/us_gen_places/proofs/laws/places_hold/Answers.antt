use Rattle.us_gen_places.proofs.Holding.{places-hold}
use Rattle.us_gen_places.proofs.laws.places_hold.Goals as goal

pub returns : goal.returns
returns c = places-hold
