-- The product of a matrix and a dense operand in terms of rows and columns: each cell is a sum over all columns of the matrix.
use Rattle.std.specs.Prelude.{◌≡◌, ℕ, zero, suc, ◌+◌, ◌*◌, ◌<◌, List, length, ℤ, pos, ◌+ℤ◌, ◌*ℤ◌}
use Rattle.std.specs.Int.{w64, int_wrap}
use Rattle.us_matrix.specs.Map.{Map, value_at}
use Rattle.us_matrix.specs.Grid.{Grid}
use Rattle.us_format.specs.Lists.{cell}
use Rattle.us_gen_product.specs.Dense.{column}

-- the sum of what f gives for each number below n
abbrev pub sum_below : (ℕ → ℤ) → ℕ → ℤ
sum_below f zero = pos 0
sum_below f (suc n) = sum_below f n +ℤ f n

-- the cell at row i and column k of the product of a matrix and an operand, modulo 2^64 and shown signed: the sum over the columns j of the matrix of its
-- value at (i, j), which is 0 where it has no entry, times the operand's cell at (j, k)
abbrev pub product_cell : Map → Grid → ℕ → ℕ → ℤ
product_cell m x i k = int_wrap w64 (sum_below (λ j. value_at m.entries i j *ℤ column x.cells m.cols k j) m.cols)

-- the cells of the product of a matrix and an operand with as many rows as it has columns, column after column
pub record AreProducts (m : Map) (x : Grid) (cells : List ℤ) : Type 0 where
  pub long : length cells ≡ m.rows * x.cols
  pub each : (i k : ℕ) → i < m.rows → k < x.cols → cell cells (k * m.rows + i) ≡ product_cell m x i k
