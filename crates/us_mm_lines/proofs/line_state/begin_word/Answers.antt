use Rattle.std.proofs.Common.{[]}
use Rattle.us_mm_lines.proofs.LineStateLemmas.{begun, stays_begun}
use Rattle.us_mm_lines.proofs.line_state.begin_word.Goals as goal

pub returns-then-count-lt5 : goal.returns-then-count-lt5
returns-then-count-lt5 c = λ ws h e. begun ws c.args.words.now c.args.count c.args.b c.with.result h e c.if-count-lt5.true (c.with.ensures [] c.new.ensures)

pub returns-else-count-lt5 : goal.returns-else-count-lt5
returns-else-count-lt5 c = λ ws h e. stays_begun ws _ c.args.words.now c.args.count h e c.if-count-lt5.false
