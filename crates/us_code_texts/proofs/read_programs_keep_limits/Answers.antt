use Rattle.us_code_texts.proofs.Kept.{reading_keeps}
use Rattle.us_code_texts.proofs.read_programs_keep_limits.Goals as goal

pub returns : goal.returns
returns c = reading_keeps
