use Rattle.std.proofs.Common.{sym, ◌∙◌}
use Rattle.us_tokens.specs.Cursor.{ahead}
use Rattle.us_tokens.proofs.Standing.{bytes_stand, no_bytes}
use Rattle.us_tokens.proofs.cursor.Cursor.text.Goals as goal

pub returns-then-is_some : goal.returns-then-is_some
unfolding ahead
returns-then-is_some g c = bytes_stand g.K.Kind.language c.args.self.now.kind c.args.self.now.at.now c.args.self.now.len (sym c.is_some.ensures ∙ c.if-is_some.true)

pub returns-else-is_some : goal.returns-else-is_some
unfolding ahead
returns-else-is_some g c = no_bytes g.K.Kind.language c.args.self.now.kind c.args.self.now.at.now c.args.self.now.len (sym c.is_some.ensures ∙ c.if-is_some.false)
