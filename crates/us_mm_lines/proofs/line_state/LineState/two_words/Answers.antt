use Rattle.std.proofs.Common.{arith}
use Rattle.us_mm_lines.proofs.LineStateLemmas.{not_so_many, taken_two}
use Rattle.us_mm_lines.proofs.line_state.LineState.two_words.Goals as goal

pub returns-then-self-ne2 : goal.returns-then-self-ne2
returns-then-self-ne2 c = λ rest h. not_so_many _ _ 2 h.plain.count (omega arith) c.if-self-ne2.true

pub returns : goal.returns
returns c = λ rest h. taken_two c.args.self.now.words _ c.args.self.now.count _ h.plain.states h.plain.count c.if-self-ne2.false
