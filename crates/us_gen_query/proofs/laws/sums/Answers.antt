use Rattle.us_gen_query.proofs.SumsRun.{sums}
use Rattle.us_gen_query.proofs.laws.sums.Goals as goal

pub returns : goal.returns
returns c = sums
