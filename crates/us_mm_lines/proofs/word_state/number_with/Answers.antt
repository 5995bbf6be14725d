use Rattle.std.proofs.Common.{sym, ◌∙◌, ap}
use Rattle.std.specs.Str.Parse.{without_leading_sign}
use Rattle.us_mm_lines.specs.States.{number_in}
use Rattle.us_mm_lines.proofs.WordStateLemmas.{number_sign, number_plain}
use Rattle.us_mm_lines.proofs.word_state.number_with.Goals as goal

pub returns-then-is_first_sign : goal.returns-then-is_first_sign
returns-then-is_first_sign c = λ w e h. number_sign w c.args.bytes c.args.b c.args.number e h (sym c.if-is_first_sign.ensures)

pub returns : goal.returns
returns c = λ w e h. c.more_digits.ensures (without_leading_sign w) h ∙ ap number_in (number_plain w c.args.bytes c.args.b e (sym c.if-is_first_sign.ensures))
