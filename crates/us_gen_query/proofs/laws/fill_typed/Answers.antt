use Rattle.us_gen_query.proofs.FillsFit.{fill_typed}
use Rattle.us_gen_query.proofs.laws.fill_typed.Goals as goal

pub returns : goal.returns
returns c = fill_typed
