use Rattle.us_mm_lines.proofs.line_state.LineState.push.Goals as goal

pub returns : goal.returns
returns c = λ rest h. c.push_behind.ensures rest (c.settle.ensures rest h)
