use Rattle.us_gen.proofs.Appending.{appends_typed}
use Rattle.us_gen.proofs.laws.appends_typed.Goals as goal

pub returns : goal.returns
returns c = appends_typed
