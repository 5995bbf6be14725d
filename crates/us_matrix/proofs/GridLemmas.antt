-- The places of the cells of a dense matrix.
use Rattle.std.proofs.Common.{ℕ, ◌+◌, ◌*◌, ◌<◌}
use Rattle.std.proofs.lemmas.Nat.{mul-add-lt}

-- the place of row i and column k, where a column has `rows` places
pub in_columns : (k rows i cols : ℕ) → k < cols → i < rows → k * rows + i < rows * cols
in_columns k rows i cols h g = mul-add-lt k rows i cols h g
