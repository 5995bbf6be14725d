use Rattle.us_gen_counting.proofs.ListRuns.{counts}
use Rattle.us_gen_counting.proofs.laws.counts_lead.Goals as goal

pub returns : goal.returns
returns c = counts
