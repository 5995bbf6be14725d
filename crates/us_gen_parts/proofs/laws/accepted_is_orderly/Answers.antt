use Rattle.us_gen_parts.proofs.Orderly.{accepted-orderly}
use Rattle.us_gen_parts.proofs.laws.accepted_is_orderly.Goals as goal

pub returns : goal.returns
returns c = accepted-orderly
