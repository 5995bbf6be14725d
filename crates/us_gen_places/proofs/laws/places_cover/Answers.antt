use Rattle.us_gen_places.proofs.Covering.{places-cover}
use Rattle.us_gen_places.proofs.laws.places_cover.Goals as goal

pub returns : goal.returns
returns c = places-cover
