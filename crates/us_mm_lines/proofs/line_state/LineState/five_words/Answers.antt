use Rattle.std.proofs.Common.{arith}
use Rattle.us_mm_lines.proofs.LineStateLemmas.{not_so_many, taken_five}
use Rattle.us_mm_lines.proofs.line_state.LineState.five_words.Goals as goal

pub returns-then-self-ne5 : goal.returns-then-self-ne5
returns-then-self-ne5 c = λ rest h. not_so_many _ _ 5 h.plain.count (omega arith) c.if-self-ne5.true

pub returns : goal.returns
returns c = λ rest h. (h.plain.states.room, taken_five c.args.self.now.words _ c.args.self.now.count h.plain.states h.plain.count c.if-self-ne5.false)
