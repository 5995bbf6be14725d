-- Numbers of 64 bits with a sign.
use Rattle.std.proofs.Common.{◌≡◌, ℕ, ◌<◌, ◌^◌, ℤ, pos, negsuc, ◌≤ℤ◌, ◌<ℤ◌, nat_abs, T, Fits, to_z, of_z, w64, FitsSigned, arith, ◌∙◌, ap}
use Rattle.std.proofs.lemmas.Bool.Decides.{nat_tests}
use Rattle.std.proofs.lemmas.Int.{ints, to_z-of_z}
use lib.Signed.{non_neg}
use Rattle.us_format.specs.Lists.{nat_of}
use Rattle.us_build.proofs.Spans.{nat-abs-of}

pub to_z-small : (n : ℕ) → n < 2 ^ 63 → to_z w64 n ≡ pos n
to_z-small n h = grind (arith, nat_tests)

pub to_z-kept : (v : ℤ) → FitsSigned w64 v → to_z w64 (of_z w64 v) ≡ v
to_z-kept v h = to_z-of_z w64 v h

pub fits-below : (z : ℤ) → pos 0 ≤ℤ z → z <ℤ pos (2 ^ 38) → FitsSigned w64 z
fits-below (pos n) h l = record { sfits = omega (arith, ints, l) }
fits-below (negsuc n) h l = absurd (omega (arith, ints, h))

pub cast-of : (z : ℤ) → pos 0 ≤ℤ z → z <ℤ pos (2 ^ 38) → nat_abs (to_z w64 (of_z w64 z)) ≡ nat_of z
cast-of z h l = ap nat_abs (to_z-kept z (fits-below z h l)) ∙ nat-abs-of z h

pub abs-fits : (z : ℤ) → pos 0 ≤ℤ z → z <ℤ pos (2 ^ 38) → T (non_neg z) × Fits w64 (nat_abs z)
abs-fits (pos n) h l = (tt, record { fits = omega (arith, ints, l) })
abs-fits (negsuc n) h l = absurd (omega (arith, ints, h))
