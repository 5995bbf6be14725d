use Rattle.us_gen_queries.proofs.Chain.{given_stays}
use Rattle.us_gen_queries.proofs.laws.given_stays.Goals as goal

pub returns : goal.returns
returns c = given_stays
