use Rattle.us_mm_lines.proofs.LineStateLemmas.{extended}
use Rattle.us_mm_lines.proofs.line_state.extend_last.Goals as goal

pub returns : goal.returns
returns c = λ ws w h e. extended ws w c.args.words.now c.args.count c.args.b _ c.with.result h e c.if-count-gt5.false c.with.ensures
