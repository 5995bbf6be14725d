-- What contracts see of the entries and of the values that are read so far.
use Rattle.std.specs.Prelude.{ℕ, List, ℤ}
use Rattle.us_matrix.specs.declared.matrix.Triple.{Triple}
use Rattle.us_mm.specs.Reads.{Sizes}

-- the numbers of the size line, how many entry lines were read, and the triples that these stand for
pub record Listed : Type 0 where
  pub sizes : Sizes
  pub found : ℕ
  pub triples : List Triple

-- the sides of a dense matrix, and the values of its first value lines
pub record Valued : Type 0 where
  pub rows : ℕ
  pub cols : ℕ
  pub values : List ℤ
