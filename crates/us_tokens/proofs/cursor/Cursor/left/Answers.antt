use Rattle.us_tokens.specs.Cursor.{ahead}
use Rattle.us_tokens.proofs.Standing.{left_stands}
use Rattle.us_tokens.proofs.cursor.Cursor.left.Goals as goal

pub returns : goal.returns
unfolding ahead
returns g c = left_stands g.K.Kind.language c.args.self.now.kind c.args.self.now.at.now c.args.self.now.len
