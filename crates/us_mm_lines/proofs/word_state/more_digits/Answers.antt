use Rattle.std.proofs.Common.{sym, ◌∙◌}
use Rattle.us_mm_lines.proofs.WordStateLemmas.{more_none, more_other, more_digit}
use Rattle.us_mm_lines.proofs.word_state.more_digits.Goals as goal

pub returns-in_default : goal.returns-in_default
returns-in_default c = λ ds h. more_none ds c.args.b (sym c.in_default.is ∙ h)

pub returns-then-not-is_ascii_digit : goal.returns-then-not-is_ascii_digit
returns-then-not-is_ascii_digit c = λ ds h. more_other ds c.args.b (sym c.if-not-is_ascii_digit.ensures.value)

pub returns : goal.returns
returns c = λ ds h. more_digit ds c.args.b c.in-Some.n c.with_digit.result (sym c.in-Some.is ∙ h) (sym c.if-not-is_ascii_digit.ensures.value) c.with_digit.ensures
