use Rattle.std.proofs.Common.{sym, ◌∙◌}
use Rattle.us_tokens.specs.Cursor.{ahead}
use Rattle.us_tokens.proofs.Standing.{behind_stands, stopped_left}
use Rattle.us_tokens.proofs.cursor.Cursor.behind.Goals as goal

pub returns-then-is_some : goal.returns-then-is_some
unfolding ahead
returns-then-is_some g c = behind_stands g.K.Kind.language c.args.self.now.kind c.args.self.now.at.now c.args.self.now.len (sym c.is_some.ensures ∙ c.if-is_some.true)

pub returns-else-is_some : goal.returns-else-is_some
unfolding ahead
returns-else-is_some g c = stopped_left g.K.Kind.language c.args.self.now.kind c.args.self.now.at.now c.args.self.now.len (sym c.is_some.ensures ∙ c.if-is_some.false)
