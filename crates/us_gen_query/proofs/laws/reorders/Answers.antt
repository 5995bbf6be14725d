use Rattle.us_gen_query.proofs.ReordersRun.{reorders}
use Rattle.us_gen_query.proofs.laws.reorders.Goals as goal

pub returns : goal.returns
returns c = reorders
