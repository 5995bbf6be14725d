use Rattle.std.proofs.Common.{sym, ◌∙◌}
use Rattle.us_tokens.specs.Cursor.{ahead}
use Rattle.us_tokens.proofs.Standing.{token_stands, ends, breaks}
use Rattle.us_tokens.proofs.cursor.Cursor.peek.Goals as goal

pub returns-in-Some : goal.returns-in-Some
unfolding ahead
returns-in-Some g c = token_stands g.K.Kind.language c.args.self.now.kind c.args.self.now.at.now c.args.self.now.len c.in-Some.kind c.in-Some.is

pub returns-in-None : goal.returns-in-None
unfolding ahead
returns-in-None g c = ends g.K.Kind.language c.args.self.now.kind c.args.self.now.at.now c.args.self.now.len c.in-None.is (sym c.is_empty.ensures ∙ c.if-is_empty.true)

pub returns-in-None-2 : goal.returns-in-None-2
unfolding ahead
returns-in-None-2 g c = breaks g.K.Kind.language c.args.self.now.kind c.args.self.now.at.now c.args.self.now.len c.in-None.is (sym c.is_empty.ensures ∙ c.if-is_empty.false)
