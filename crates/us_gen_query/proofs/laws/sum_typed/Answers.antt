use Rattle.us_gen_query.proofs.CountsFit.{sum_typed}
use Rattle.us_gen_query.proofs.laws.sum_typed.Goals as goal

pub returns : goal.returns
returns c = sum_typed
