use Rattle.us_gen_opening.proofs.OpeningRuns.{opening_opens}
use Rattle.us_gen_opening.proofs.laws.opening_opens.Goals as goal

pub returns : goal.returns
returns c = opening_opens
