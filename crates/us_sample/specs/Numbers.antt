-- The numbers that follow a seed, and the matrix that is made of them.
use Rattle.std.specs.Prelude.{ℕ, suc, zero, ◌+◌, ◌*◌, ◌%◌, List, map, pos, ◌-ℤ◌}
use Rattle.std.specs.List.{range_with_len}
use Rattle.us_matrix.specs.declared.matrix.Triple.{Triple}
use Rattle.us_matrix.specs.Map.{Map, matrix_of}

-- the number behind another one: 48271 times it, modulo 2^31 - 1
abbrev pub after : ℕ → ℕ
after x = 48271 * x % 2147483647

-- number n of a seed; number 0 is the seed itself
unfoldable pub number_at : ℕ → ℕ → ℕ
number_at seed zero = seed
number_at seed (suc n) = after (number_at seed n)

-- the triple of three numbers: a row, a column, and a value from -999 to 999
abbrev pub triple_from : ℕ → ℕ → ℕ → ℕ → ℕ → Triple
triple_from rows cols a b c = record { i = a % rows; j = b % cols; v = pos (c % 1999) -ℤ pos 999 }

-- triple t of a seed, counted from 0, is made of the numbers 3 * t + 1, 3 * t + 2 and 3 * t + 3
abbrev pub triple_at : ℕ → ℕ → ℕ → ℕ → Triple
triple_at seed rows cols t =
    triple_from rows cols (number_at seed (3 * t + 1)) (number_at seed (3 * t + 2)) (number_at seed (3 * t + 3))

-- the first triples of a seed
unfoldable pub triples_of : ℕ → ℕ → ℕ → ℕ → List Triple
triples_of seed rows cols count = map (triple_at seed rows cols) (range_with_len 0 count)

-- the matrix of these triples: repeats are added, zeros are dropped
abbrev pub sample_of : ℕ → ℕ → ℕ → ℕ → Map
sample_of seed rows cols count = matrix_of rows cols (triples_of seed rows cols count)
