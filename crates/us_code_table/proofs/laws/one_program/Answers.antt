use Rattle.us_grammar.proofs.Law.{one_value}
use Rattle.us_code_table.specs.Table.{Whole, grammar}
use Rattle.us_code_table.proofs.Sound.{table}
use Rattle.us_code_table.proofs.laws.one_program.Goals as goal

pub returns : goal.returns
returns c = λ ts p q h k. one_value grammar table Whole ts p q h k
