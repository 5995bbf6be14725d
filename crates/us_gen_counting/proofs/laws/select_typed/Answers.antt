use Rattle.us_gen_counting.proofs.SelectFits.{select_typed}
use Rattle.us_gen_counting.proofs.laws.select_typed.Goals as goal

pub returns : goal.returns
returns c = select_typed
