use Rattle.std.proofs.Common.{sym}
use Rattle.us_mm_lines.proofs.LineStateLemmas.{plain_blank, plain_longer, plain_begun}
use Rattle.us_mm_lines.proofs.line_state.LineState.push_plain.Goals as goal

pub returns-then-is_blank-clause-plain : goal.returns-then-is_blank-clause-plain
returns-then-is_blank-clause-plain c = λ line h. plain_blank c.args.self.now line c.args.b c.comment_with-self.result h (sym c.if-is_blank.ensures) c.comment_with-self.ensures

pub returns-then-self-clause-plain : goal.returns-then-self-clause-plain
returns-then-self-clause-plain c = λ line h. plain_longer c.args.self.now line c.args.b c.comment_with-self.result c.extend_last.new.words h (sym c.if-is_blank.ensures) c.comment_with-self.ensures c.if-self.true c.extend_last.ensures

pub returns-clause-plain : goal.returns-clause-plain
returns-clause-plain c = λ line h. plain_begun c.args.self.now line c.args.b c.comment_with-self.result c.saturating_add-self.result c.begin_word.new.words h (sym c.if-is_blank.ensures) c.comment_with-self.ensures c.if-self.false c.saturating_add-self.ensures c.begin_word.ensures
