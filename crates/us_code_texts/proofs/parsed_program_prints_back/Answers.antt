use Rattle.us_code_texts.proofs.Joined.{prints_back}
use Rattle.us_code_texts.proofs.parsed_program_prints_back.Goals as goal

pub returns : goal.returns
returns c = prints_back
