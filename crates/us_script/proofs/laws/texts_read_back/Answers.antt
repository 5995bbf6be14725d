use Rattle.us_script.proofs.TextLemmas.{text_reads}
use Rattle.us_script.proofs.laws.texts_read_back.Goals as goal

pub returns : goal.returns
returns c = text_reads
