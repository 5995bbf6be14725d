use Rattle.std.proofs.Common.{ap, sym, ◌||◌, ◌==◌, ◌∙◌}
use Rattle.us_mm_lines.proofs.LineStateLemmas.{skipped_by_state}
use Rattle.us_mm_lines.proofs.line_state.LineState.is_skipped.Goals as goal

pub returns-else-self : goal.returns-else-self
returns-else-self c = λ rest h. ap (λ v. v || (c.args.self.now.count == 0)) (sym c.if-self.false) ∙ skipped_by_state c.args.self.now _ h.plain
