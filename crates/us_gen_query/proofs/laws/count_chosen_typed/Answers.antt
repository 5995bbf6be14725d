use Rattle.us_gen_query.proofs.SelectsFit.{count_chosen_typed}
use Rattle.us_gen_query.proofs.laws.count_chosen_typed.Goals as goal

pub returns : goal.returns
returns c = count_chosen_typed
