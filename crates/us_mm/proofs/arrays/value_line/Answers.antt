use Rattle.std.proofs.Common.{sym, ◌∙◌}
use Rattle.us_mm.proofs.OptionLemmas.{value_by_option}
use Rattle.us_mm.proofs.arrays.value_line.Goals as goal

pub returns-clause-value : goal.returns-clause-value
returns-clause-value c = c.value_option.ensures.value ∙ sym (value_by_option c.args.number c.args.line.now c.in-Some.word.now c.value_word.result c.in-Some.ensures c.value_word.ensures)
