use Rattle.us_code_reader.proofs.Whole.{is_parsed}
use Rattle.us_code_reader.proofs.laws.read_text_is_parsed.Goals as goal

pub returns : goal.returns
returns c = λ before text program behind more result e h. is_parsed before text program behind more result e h
