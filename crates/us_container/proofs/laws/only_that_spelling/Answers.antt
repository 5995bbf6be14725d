use Rattle.us_container.proofs.Whole.{only_spelling}
use Rattle.us_container.proofs.laws.only_that_spelling.Goals as goal

pub returns : goal.returns
returns c = only_spelling
