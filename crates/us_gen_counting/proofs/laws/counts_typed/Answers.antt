use Rattle.us_gen_counting.proofs.ListFits.{counts_typed}
use Rattle.us_gen_counting.proofs.laws.counts_typed.Goals as goal

pub returns : goal.returns
returns c = counts_typed
