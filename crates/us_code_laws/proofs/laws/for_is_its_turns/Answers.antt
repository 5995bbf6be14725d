use Rattle.us_code_laws.proofs.Sequence.{for_turns}
use Rattle.us_code_laws.proofs.laws.for_is_its_turns.Goals as goal

pub returns : goal.returns
returns c = for_turns
