use Rattle.std.proofs.Common.{arith}
use Rattle.us_mm_lines.proofs.LineStateLemmas.{not_so_many, taken_three}
use Rattle.us_mm_lines.proofs.line_state.LineState.three_words.Goals as goal

pub returns-then-self-ne3 : goal.returns-then-self-ne3
returns-then-self-ne3 c = λ rest h. not_so_many _ _ 3 h.plain.count (omega arith) c.if-self-ne3.true

pub returns : goal.returns
returns c = λ rest h. taken_three c.args.self.now.words _ c.args.self.now.count _ h.plain.states h.plain.count c.if-self-ne3.false
