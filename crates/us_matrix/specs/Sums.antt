-- Sums of values at one coordinate, modulo 2^64 and shown signed.
use Rattle.std.specs.Prelude.{ℕ, ◌%◌, ◌^◌, ◌==◌, ◌&&◌, Bool, List, [], ◌∷◌, ◌++◌, ℤ, sum_by, if◌then◌else◌}
use Rattle.std.specs.Int.{w64, cast_unsigned, cast_signed}
use Rattle.us_matrix.specs.declared.matrix.Triple.{Triple}

-- the triple stands at row i and column j
abbrev pub is_at : ℕ → ℕ → Triple → Bool
is_at i j t = t.i == i && t.j == j

-- the value's bits where the triple stands at (i, j), as a number below 2^64
abbrev pub bits_at : ℕ → ℕ → Triple → ℕ
bits_at i j t = if is_at i j t then cast_unsigned w64 t.v else 0

-- the sum of the values at (i, j) modulo 2^64, shown signed
abbrev pub sum_at : List Triple → ℕ → ℕ → ℤ
sum_at ts i j = cast_signed w64 (sum_by (bits_at i j) ts % 2 ^ 64)

-- entries with one more at the end, which is left out where its bits are 0
abbrev pub with_sum : List Triple → ℕ → ℕ → ℕ → List Triple
with_sum es i j bits = if bits == 0 then es else es ++ record { i = i; j = j; v = cast_signed w64 bits } ∷ []
