use Rattle.us_gen_query.proofs.LoadsLight.{passed_are_weights}
use Rattle.us_gen_query.proofs.laws.passed_are_weights.Goals as goal

pub returns : goal.returns
returns c = passed_are_weights
