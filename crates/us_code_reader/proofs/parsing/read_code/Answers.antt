use Rattle.us_code_reader.proofs.Whole.{code_read}
use Rattle.us_code_reader.proofs.parsing.read_code.Goals as goal

pub returns : goal.returns
returns c = code_read c.args.bytes.now c.new-reader.result c.program.result c.new-reader.ensures.text c.new-reader.ensures.count c.program.ensures
