use Rattle.us_gen_query.proofs.CountsFit.{enumerate_typed}
use Rattle.us_gen_query.proofs.laws.enumerate_typed.Goals as goal

pub returns : goal.returns
returns c = enumerate_typed
