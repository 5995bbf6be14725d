use Rattle.us_code_laws.proofs.Sequence.{exec_append}
use Rattle.us_code_laws.proofs.laws.blocks_in_sequence.Goals as goal

pub returns : goal.returns
returns c = exec_append
