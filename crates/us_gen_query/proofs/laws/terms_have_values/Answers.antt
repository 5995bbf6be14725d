use Rattle.us_gen_query.proofs.TermValues.{terms_have_values}
use Rattle.us_gen_query.proofs.laws.terms_have_values.Goals as goal

pub returns : goal.returns
returns c = terms_have_values
