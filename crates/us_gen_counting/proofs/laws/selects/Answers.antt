use Rattle.us_gen_counting.proofs.SelectRuns.{selects}
use Rattle.us_gen_counting.proofs.laws.selects.Goals as goal

pub returns : goal.returns
returns c = selects
