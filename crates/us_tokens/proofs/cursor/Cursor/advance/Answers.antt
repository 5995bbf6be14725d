use Rattle.std.proofs.Common.{sym, ◌∙◌}
use Rattle.us_tokens.specs.Cursor.{ahead}
use Rattle.us_tokens.proofs.Standing.{goes_on, stays}
use Rattle.us_tokens.proofs.cursor.Cursor.advance.Goals as goal

pub returns-then-is_some : goal.returns-then-is_some
unfolding ahead
returns-then-is_some g c =
    c.new.ensures ∙ goes_on g.K.Kind.language c.args.self.now.kind c.args.self.now.at.now c.split_at.result.1.now c.args.self.now.len (sym c.is_some.ensures ∙ c.if-is_some.true) c.split_at.ensures.back

pub returns-else-is_some : goal.returns-else-is_some
unfolding ahead
returns-else-is_some g c = stays g.K.Kind.language c.args.self.now.kind c.args.self.now.at.now c.args.self.now.len (sym c.is_some.ensures ∙ c.if-is_some.false)
