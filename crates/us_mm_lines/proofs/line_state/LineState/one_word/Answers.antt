use Rattle.std.proofs.Common.{arith}
use Rattle.us_mm_lines.proofs.LineStateLemmas.{not_so_many, taken_one}
use Rattle.us_mm_lines.proofs.line_state.LineState.one_word.Goals as goal

pub returns-then-self-ne1 : goal.returns-then-self-ne1
returns-then-self-ne1 c = λ rest h. not_so_many _ _ 1 h.plain.count (omega arith) c.if-self-ne1.true

pub returns : goal.returns
returns c = λ rest h. taken_one c.args.self.now.words _ c.args.self.now.count _ h.plain.states h.plain.count c.if-self-ne1.false
