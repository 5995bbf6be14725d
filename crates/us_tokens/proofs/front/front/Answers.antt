use Rattle.us_tokens.proofs.Standing.{end_stands}
use Rattle.us_tokens.proofs.front.front.Goals as goal

pub returns-in-None-clause-token : goal.returns-in-None-clause-token
returns-in-None-clause-token g c = end_stands g.K.Kind.language c.args.bytes.now 0 c.in-None.ensures
