use Rattle.us_code_texts.proofs.Joined.{parsed_keeps}
use Rattle.us_code_texts.proofs.parsed_program_keeps_limits.Goals as goal

pub returns : goal.returns
returns c = parsed_keeps
