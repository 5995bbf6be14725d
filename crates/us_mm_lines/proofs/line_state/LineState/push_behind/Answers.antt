use Rattle.us_mm_lines.proofs.WordStateLemmas.{test_true, test_false}
use Rattle.us_mm_lines.proofs.LineStateLemmas.{behind_return, behind_other}
use Rattle.us_mm_lines.proofs.line_state.LineState.push_behind.Goals as goal

pub returns-then-b-eq13 : goal.returns-then-b-eq13
returns-then-b-eq13 c = λ rest h. behind_return c.args.self.now rest c.args.b h (test_true _ _ c.if-b-eq13.true)

pub returns : goal.returns
returns c = λ rest h.
    behind_other c.push_plain.new.self rest c.args.b
    (c.push_plain.ensures.plain rest (record { begun = h.begun; comment = h.comment; ended = h.ended; unended = h.unended; parts = h.parts; in_word = h.in_word; count = h.count; states = h.states }))
    (test_false _ _ c.if-b-eq13.false) c.push_plain.ensures.returned
