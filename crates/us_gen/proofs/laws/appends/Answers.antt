use Rattle.us_gen.proofs.Appending.{appends}
use Rattle.us_gen.proofs.laws.appends.Goals as goal

pub returns : goal.returns
returns c = appends
