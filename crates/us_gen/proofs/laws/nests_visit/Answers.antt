use Rattle.us_gen.proofs.NestsOfLevels.{nests_visit}
use Rattle.us_gen.proofs.laws.nests_visit.Goals as goal

pub returns : goal.returns
returns c = nests_visit
