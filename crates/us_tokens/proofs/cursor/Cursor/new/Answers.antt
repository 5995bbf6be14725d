use Rattle.std.proofs.Common.{sym, ◌∙◌}
use Rattle.us_tokens.specs.Cursor.{ahead}
use Rattle.us_tokens.proofs.cursor.Cursor.new.Goals as goal

pub returns : goal.returns
unfolding ahead
returns g c = c.front-kind.ensures.token ∙ sym c.skip-at.ensures.same
