-- The product of a matrix and a dense operand, modulo 2^64.
use Rattle.std.specs.Prelude.{◌≡◌, ℕ, ◌+◌, ◌*◌, ◌<◌, cond, nat_eq, List, [], ◌∷◌, length, ℤ, pos, ◌+ℤ◌, ◌*ℤ◌}
use Rattle.std.specs.Int.{int_wrap}
use mir.Syntax.{w64}
use Rattle.us_format.specs.Lists.{cell}
use Rattle.us_format.specs.Matrix.{Shape, Entry}

-- the sum of what f gives for each entry
abbrev pub sum_over : (Entry → ℤ) → List Entry → ℤ
sum_over f [] = pos 0
sum_over f (y ∷ ys) = f y +ℤ sum_over f ys

-- column k of an operand with n rows, column after column
abbrev pub column : List ℤ → ℕ → ℕ → ℕ → ℤ
column xs n k j = cell xs (k * n + j)

-- what an entry adds to row i, for a column x of the operand
abbrev pub adds : (ℕ → ℤ) → ℕ → Entry → ℤ
adds x i y = cond (nat_eq y.i i) (y.v *ℤ x y.j) (pos 0)

-- the cells of the product, column after column: each is the sum over the entries of its row, modulo 2^64, shown signed
pub record IsDense (s : Shape) (m : List Entry) (columns : ℕ) (xs ys : List ℤ) : Type 0 where
  pub long : length ys ≡ s.rows * columns
  pub each : (k i : ℕ) → k < columns → i < s.rows → cell ys (k * s.rows + i) ≡ int_wrap w64 (sum_over (adds (column xs s.cols k) i) m)
