use Rattle.us_gen.proofs.Appending.{holds_more}
use Rattle.us_gen.proofs.laws.holds_more.Goals as goal

pub returns : goal.returns
returns c = holds_more
