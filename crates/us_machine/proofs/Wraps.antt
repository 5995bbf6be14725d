-- Sums and products that wrap.
use Rattle.std.proofs.Common.{◌≡◌, ℕ, ◌+◌, ◌*◌, ◌%◌, ◌<◌, ◌^◌, w64, ℤ, pos, ◌+ℤ◌, ◌*ℤ◌, FitsSigned, ap, ◌∙◌, arith}
use Rattle.std.specs.Int.{cast_signed, cast_unsigned, int_wrap}
use Rattle.std.proofs.lemmas.Int.{wrapping_mul_is, wrapping_add_onto, int_wrap-add_left, int_wrap_fits}

pub flat_wraps : (left digit : ℤ) (f : ℕ) → FitsSigned w64 left → FitsSigned w64 digit → f < 2 ^ 63 → FitsSigned w64 (left *ℤ pos f +ℤ digit) → cast_signed w64 ((cast_unsigned w64 left * f % 2 ^ 64 + cast_unsigned w64 digit) % 2 ^ 64) ≡ left *ℤ pos f +ℤ digit
flat_wraps left digit f fl fd ff fits =
    let m = cast_unsigned w64 left * f % 2 ^ 64 in
    let small : m < 2 ^ 64 = omega arith in
    let g : FitsSigned w64 (pos f) = record { sfits = ff } in
    wrapping_add_onto w64 m digit small fd
    ∙ (ap (λ (z : ℤ). int_wrap w64 (z +ℤ digit)) (wrapping_mul_is w64 left (pos f) fl g)
    ∙ (int_wrap-add_left w64 (left *ℤ pos f) digit
    ∙ int_wrap_fits w64 (left *ℤ pos f +ℤ digit) fits))
