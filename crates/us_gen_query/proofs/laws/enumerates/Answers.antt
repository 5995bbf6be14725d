use Rattle.us_gen_query.proofs.CountsRun.{enumerates}
use Rattle.us_gen_query.proofs.laws.enumerates.Goals as goal

pub returns : goal.returns
returns c = enumerates
