use Rattle.std.proofs.Common.{sym, ◌∙◌}
use Rattle.us_mm_lines.proofs.LineStateLemmas.{settled_none, settled_return}
use Rattle.us_mm_lines.proofs.line_state.LineState.settle.Goals as goal

pub returns-then-not-self : goal.returns-then-not-self
returns-then-not-self c = λ rest h. rw (settled_none rest (sym h.returned ∙ c.if-not-self.true)) at h.plain

pub returns : goal.returns
returns c = λ rest h. rw (settled_return rest (sym h.returned ∙ c.if-not-self.false)) at (c.push_plain.ensures.plain _ h.plain)
