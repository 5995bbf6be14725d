use Rattle.std.proofs.Common.{◌≡◌, ℕ, ◌+◌, ◌-◌, ◌&&◌, true, get_or, drop, arith, sym, ap, ◌∙◌}
use Rattle.std.specs.Str.{all_ascii_digits}
use Rattle.std.specs.Char.{is_ascii_digit, digit_value}
use Rattle.std.proofs.lemmas.Bool.Decides.{nat_tests}
use Rattle.std.proofs.lemmas.List.{at_drop_more}
use Rattle.std.proofs.lemmas.Int.Digits.{digits_value_more}
use Rattle.us_mm_lines.proofs.words.number_of.Goals as goal

digit_is : (c : ℕ) → is_ascii_digit c ≡ true → digit_value c ≡ c - 48
digit_is c h = grind (arith, nat_tests)

pub loop-b-preserved : goal.loop-b-preserved
loop-b-preserved c =
    let ds = c.args.ds.now in
    let k = c.loop-b.b-index in
    let digit : is_ascii_digit (get_or ds k 0) ≡ true = sym c.if-not-is_ascii_digit.ensures.value in (
      sym (at_drop_more all_ascii_digits ds k 0 c.loop-b-test.true ∙ ap (λ b. b && all_ascii_digits (drop (k + 1) ds)) digit) ∙ c.loop-b.invariant.0,
      omega (arith, c.loop-b.invariant.1, digits_value_more 10 ds k c.loop-b-test.true, digit_is (get_or ds k 0) digit),
    )
