use Rattle.us_grammar.proofs.Closed.{text_reads_back}
use Rattle.us_grammar.proofs.laws.reading_back_law.Goals as goal

pub returns : goal.returns
returns g c = λ ok limits n x xs rest v closed full spells kept. text_reads_back g.G.Table.grammar limits ok n closed full x xs rest v spells kept
