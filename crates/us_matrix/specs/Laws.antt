-- Laws of matrices.
use Rattle.std.specs.Prelude.{◌≡◌, ℕ, List, All}
use Rattle.us_matrix.specs.declared.matrix.Triple.{Triple}
use Rattle.us_matrix.specs.Map.{Map, IsSide, IsMatrix, IsInShape, value_at, matrix_of}
use Rattle.us_matrix.specs.Sums.{sum_at}

-- two matrices of one shape with the same values are one matrix
abbrev pub OneMatrix : Type 0
OneMatrix = (m n : Map) → IsMatrix m → IsMatrix n → m.rows ≡ n.rows → m.cols ≡ n.cols → ((i j : ℕ) → value_at m.entries i j ≡ value_at n.entries i j) → m ≡ n

-- what triples of a shape make is a matrix, with the sum of the values at each coordinate
abbrev pub ValuesAreSums : Type 0
ValuesAreSums =
    (rows cols : ℕ) (ts : List Triple) → IsSide rows → IsSide cols → All (IsInShape rows cols) ts
    → IsMatrix (matrix_of rows cols ts) × ((i j : ℕ) → value_at (matrix_of rows cols ts).entries i j ≡ sum_at ts i j)
