use Rattle.std.proofs.Common.{refl}
use Rattle.us_grammar.proofs.Closed.{text_reads_back}
use Rattle.us_code_table.specs.Table.{Whole, grammar}
use Rattle.us_code_table.specs.Limits.{limits}
use Rattle.us_code_table.proofs.Sound.{table}
use Rattle.us_code_table.proofs.laws.text_reads_back.Goals as goal

pub returns : goal.returns
returns c = λ x xs rest p spells kept. text_reads_back grammar limits table Whole refl refl x xs rest p spells kept
