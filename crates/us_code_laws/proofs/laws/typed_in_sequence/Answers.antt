use Rattle.us_code_laws.proofs.Typings.{typed_append}
use Rattle.us_code_laws.proofs.laws.typed_in_sequence.Goals as goal

pub returns : goal.returns
returns c = typed_append
