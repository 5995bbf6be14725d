use Rattle.us_gen_opening.proofs.PartSources.{openings_stand}
use Rattle.us_gen_opening.proofs.laws.openings_stand.Goals as goal

pub returns : goal.returns
returns c = openings_stand
