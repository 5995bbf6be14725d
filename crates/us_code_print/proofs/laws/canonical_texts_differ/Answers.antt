use Rattle.us_code_print.proofs.ReadProgram.{texts_differ}
use Rattle.us_code_print.proofs.laws.canonical_texts_differ.Goals as goal

pub returns : goal.returns
returns c = texts_differ
