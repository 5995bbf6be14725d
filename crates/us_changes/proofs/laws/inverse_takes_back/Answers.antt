use Rattle.us_changes.proofs.StateLemmas.{taken_back}
use Rattle.us_changes.proofs.laws.inverse_takes_back.Goals as goal

pub returns : goal.returns
returns c = taken_back
