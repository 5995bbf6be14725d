use Rattle.us_gen_query.proofs.SelectsFit.{copy_chosen_typed}
use Rattle.us_gen_query.proofs.laws.copy_chosen_typed.Goals as goal

pub returns : goal.returns
returns c = copy_chosen_typed
