use Rattle.us_code_print.proofs.ReadProgram.{read_back}
use Rattle.us_code_print.proofs.laws.canonical_text_reads_back.Goals as goal

pub returns : goal.returns
returns c = read_back
