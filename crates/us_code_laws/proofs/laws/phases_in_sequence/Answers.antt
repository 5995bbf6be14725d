use Rattle.us_code_laws.proofs.Sequence.{phases_append}
use Rattle.us_code_laws.proofs.laws.phases_in_sequence.Goals as goal

pub returns : goal.returns
returns c = phases_append
