-- A cell that was written holds the number.
use Rattle.std.proofs.Common.{◌≡◌, ℕ, ◌-◌, ◌/◌, ◌%◌, ◌^◌, ◌<◌, ℤ, pos, negsuc, List, [], ◌∷◌, ◌++◌, take, replicate, ap, ◌∙◌, arith, w64}
use lib.Dec.{ltb→lt}
use mir.Facts.{Fits-of_z}
use mir.Val.{SFits}
use Rattle.std.specs.Int.{from_le_bytes, to_le_bytes, cast_signed, cast_unsigned}
use Rattle.std.proofs.lemmas.Int.{to_z-of_z, to_z_pos}
use Rattle.std.proofs.lemmas.Nat.{from_le_bytes-to_le_bytes_8}
use Rattle.us_raw.specs.declared.width.Width.{Width}
use Rattle.us_raw.specs.declared.width.Width.TheVariants.{W1, W2, W4, W8}
use Rattle.us_raw.specs.Layout.{cell_bytes}
use Rattle.us_raw.specs.Widths.{size_of, Holds}

-- a number of few bytes has zeros above them
one : (n : ℕ) → n < 2 ^ 8 → take 1 (to_le_bytes w64 n) ++ replicate 7 0 ≡ to_le_bytes w64 n
one n small =
    let z1 : 0 ≡ (n / 256) % 256 = omega (arith, small) in
    let z2 : 0 ≡ (n / 65536) % 256 = omega (arith, small) in
    let z3 : 0 ≡ (n / 16777216) % 256 = omega (arith, small) in
    let z4 : 0 ≡ (n / 4294967296) % 256 = omega (arith, small) in
    let z5 : 0 ≡ (n / 1099511627776) % 256 = omega (arith, small) in
    let z6 : 0 ≡ (n / 281474976710656) % 256 = omega (arith, small) in
    let z7 : 0 ≡ (n / 72057594037927936) % 256 = omega (arith, small) in
    λ i. n % 256 ∷ z1 i ∷ z2 i ∷ z3 i ∷ z4 i ∷ z5 i ∷ z6 i ∷ z7 i ∷ []

two : (n : ℕ) → n < 2 ^ 16 → take 2 (to_le_bytes w64 n) ++ replicate 6 0 ≡ to_le_bytes w64 n
two n small =
    let z2 : 0 ≡ (n / 65536) % 256 = omega (arith, small) in
    let z3 : 0 ≡ (n / 16777216) % 256 = omega (arith, small) in
    let z4 : 0 ≡ (n / 4294967296) % 256 = omega (arith, small) in
    let z5 : 0 ≡ (n / 1099511627776) % 256 = omega (arith, small) in
    let z6 : 0 ≡ (n / 281474976710656) % 256 = omega (arith, small) in
    let z7 : 0 ≡ (n / 72057594037927936) % 256 = omega (arith, small) in
    λ i. n % 256 ∷ (n / 256) % 256 ∷ z2 i ∷ z3 i ∷ z4 i ∷ z5 i ∷ z6 i ∷ z7 i ∷ []

four : (n : ℕ) → n < 2 ^ 32 → take 4 (to_le_bytes w64 n) ++ replicate 4 0 ≡ to_le_bytes w64 n
four n small =
    let z4 : 0 ≡ (n / 4294967296) % 256 = omega (arith, small) in
    let z5 : 0 ≡ (n / 1099511627776) % 256 = omega (arith, small) in
    let z6 : 0 ≡ (n / 281474976710656) % 256 = omega (arith, small) in
    let z7 : 0 ≡ (n / 72057594037927936) % 256 = omega (arith, small) in
    λ i. n % 256 ∷ (n / 256) % 256 ∷ (n / 65536) % 256 ∷ (n / 16777216) % 256 ∷ z4 i ∷ z5 i ∷ z6 i ∷ z7 i ∷ []

few : (n : ℕ) (bytes : List ℕ) → n < 2 ^ 63 → bytes ≡ to_le_bytes w64 n → cast_signed w64 (from_le_bytes w64 bytes) ≡ pos n
few n bytes small e =
    ap (λ (l : List ℕ). cast_signed w64 (from_le_bytes w64 l)) e ∙ ap (cast_signed w64) (from_le_bytes-to_le_bytes_8 n (omega (arith, small))) ∙ to_z_pos w64 n small

pub reads_back : (w : Width) (v : ℤ) → SFits w64 v → Holds w v → cast_signed w64 (from_le_bytes w64 (cell_bytes (size_of w) v ++ replicate (8 - size_of w) 0)) ≡ v
unfolding cell_bytes
reads_back W1 (pos n) f h = let small : n < 256 = ltb→lt n 256 h.1.lt in few n _ (omega (arith, small)) (one n small)
reads_back W2 (pos n) f h = let small : n < 65536 = ltb→lt n 65536 h.1.lt in few n _ (omega (arith, small)) (two n small)
reads_back W4 (pos n) f h = let small : n < 4294967296 = ltb→lt n 4294967296 h.1.lt in few n _ (omega (arith, small)) (four n small)
reads_back W1 (negsuc n) f h = absurd h.0.le
reads_back W2 (negsuc n) f h = absurd h.0.le
reads_back W4 (negsuc n) f h = absurd h.0.le
reads_back W8 v f h = ap (cast_signed w64) (from_le_bytes-to_le_bytes_8 (cast_unsigned w64 v) (Fits-of_z {w = w64} {z = v} f).fits) ∙ to_z-of_z w64 v f
