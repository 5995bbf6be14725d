use Rattle.us_gen_query.proofs.SelectsRun.{counts_chosen}
use Rattle.us_gen_query.proofs.laws.counts_chosen.Goals as goal

pub returns : goal.returns
returns c = counts_chosen
