use Rattle.us_code_texts.proofs.Joined.{parsed_back}
use Rattle.us_code_texts.proofs.printed_program_is_parsed.Goals as goal

pub returns : goal.returns
returns c = parsed_back
