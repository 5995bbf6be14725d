use Rattle.us_grammar.proofs.Reading.{answer_means}
use Rattle.us_code_table.specs.Table.{Whole, grammar}
use Rattle.us_code_table.specs.Limits.{limits}
use Rattle.us_code_table.proofs.Sound.{table}
use Rattle.us_code_table.proofs.laws.answers_mean.Goals as goal

pub returns : goal.returns
returns c = λ all. answer_means grammar limits Whole table all
