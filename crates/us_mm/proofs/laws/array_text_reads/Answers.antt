use Rattle.us_mm.proofs.ArrayTextLemmas as lemmas
use Rattle.us_mm.proofs.laws.array_text_reads.Goals as goal

pub returns : goal.returns
returns c = lemmas.array_text_reads
