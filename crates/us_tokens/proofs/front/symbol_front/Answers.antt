use Rattle.std.proofs.Common.{sym, ◌∙◌}
use Rattle.us_tokens.proofs.Standing.{pair_stands, symbol_stands}
use Rattle.us_tokens.proofs.front.symbol_front.Goals as goal

pub returns-in-Some : goal.returns-in-Some
returns-in-Some g c =
    let p = pair_stands g.K.Kind.language c.args.first c.args.behind.now c.in-Some.kind c.requires.gap c.requires.word c.requires.digit (sym c.pair_front.ensures ∙ c.in-Some.is) in
    record { token = p.0; within = p.1 }

pub returns-in-None-clause-token : goal.returns-in-None-clause-token
returns-in-None-clause-token g c = symbol_stands g.K.Kind.language c.args.first c.args.behind.now c.symbol.result c.requires.gap c.requires.word c.requires.digit (sym c.pair_front.ensures ∙ c.in-None.is) c.symbol.ensures
