-- What is printed of a matrix.
use Rattle.std.specs.Prelude.{ℕ, ◌%◌, ◌^◌, ℤ, List, [], ◌∷◌, ◌++◌, length, codes, sum_by}
use Rattle.std.specs.Fmt.{decimal, signed_decimal}
use Rattle.std.specs.Int.{w64, cast_unsigned, cast_signed}
use Rattle.us_matrix.specs.declared.matrix.Triple.{Triple}
use Rattle.us_matrix.specs.Map.{Map}

-- the bits of a value, as a number below 2^64
abbrev pub bits_of : Triple → ℕ
bits_of t = cast_unsigned w64 t.v

-- the sum of all values modulo 2^64, shown signed
abbrev pub sum_of : Map → ℤ
sum_of m = cast_signed w64 (sum_by bits_of m.entries % 2 ^ 64)

-- rows, columns, number of entries, and sum, each but the first behind a blank
abbrev pub line_of : Map → List ℕ
line_of m =
    decimal m.rows
    ++ (codes " "
    ++ (decimal m.cols ++ (codes " " ++ (decimal (length m.entries) ++ (codes " " ++ (signed_decimal (sum_of m) ++ (10 ∷ [])))))))
