use Rattle.std.proofs.Common.{ℕ, ap, ◌∙◌, take}
use Rattle.us_tokens.specs.Lex.{capped_value}
use Rattle.us_tokens.proofs.Standing.{number_stands}
use Rattle.us_tokens.proofs.front.number_front.Goals as goal

pub returns-clause-token : goal.returns-clause-token
returns-clause-token g c =
    let value = c.value_of.ensures ∙ ap (λ (n : ℕ). capped_value n (take c.digits_len-len.result c.args.bytes.now)) c.limit.ensures.value in
    number_stands g.K.Kind.language c.args.bytes.now c.digits_len-len.result c.number.result c.requires.gap c.requires.word c.requires.digit c.digits_len-len.ensures (c.number.ensures ∙ ap g.K.Kind.language.number value)
