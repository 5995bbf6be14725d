use Rattle.us_gen_queries.proofs.Chain.{tables_are_within}
use Rattle.us_gen_queries.proofs.laws.tables_are_within.Goals as goal

pub returns : goal.returns
returns c = tables_are_within
