use Rattle.us_gen.proofs.NestsOfLevels.{nests_place}
use Rattle.us_gen.proofs.laws.nests_place.Goals as goal

pub returns : goal.returns
returns c = nests_place
