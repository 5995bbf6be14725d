use Rattle.std.proofs.Common.{◌≡◌, ℕ, ◌-◌, true, get_or, arith, sym}
use Rattle.std.specs.Char.{is_ascii_digit, digit_value}
use Rattle.std.proofs.lemmas.Bool.Decides.{nat_tests}
use Rattle.std.proofs.lemmas.Int.Digits.{digits_value_more}
use Rattle.us_mm_lines.proofs.UsualLemmas.{digits_more}
use Rattle.us_mm_lines.proofs.usual.number_before.Goals as goal

digit_is : (c : ℕ) → is_ascii_digit c ≡ true → digit_value c ≡ c - 48
digit_is c h = grind (arith, nat_tests)

pub loop-i-preserved : goal.loop-i-preserved
loop-i-preserved c =
    let line = c.args.line.now in
    let k = c.loop-i.i in
    let digit : is_ascii_digit (get_or line k 0) ≡ true = sym c.if-not-is_ascii_digit.ensures.value in (
      digits_more line k c.loop-i.invariant.0 digit,
      omega (arith, c.loop-i.invariant.1, c.with_digit-number.ensures, digits_value_more 10 line k c.loop-i-test.true, digit_is (get_or line k 0) digit),
    )
