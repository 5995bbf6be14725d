use Rattle.us_gen_opening.proofs.PartDims.{openings_tell}
use Rattle.us_gen_opening.proofs.laws.openings_tell.Goals as goal

pub returns : goal.returns
returns c = openings_tell
