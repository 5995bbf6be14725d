-- The canonical texts and the readers are inverse.
use Rattle.std.specs.Prelude.{◌≡◌, ◌≤◌, ◌*◌, List, [], ◌∷◌, length, ℤ, Ok, FitsSigned}
use Rattle.std.specs.Int.{w64}
use Rattle.us_matrix.specs.Map.{Map, IsMatrix, IsSide}
use Rattle.us_matrix.specs.Grid.{Grid}
use Rattle.us_mm.specs.Reads.{matrix_in}
use Rattle.us_mm.specs.Arrays.{array_in}
use Rattle.us_mm.specs.Text.{text, array_text}

-- the canonical text of a matrix of at most 8388608 entries is read as that matrix
abbrev pub TextReads : Type 0
TextReads = (m : Map) → IsMatrix m → length m.entries ≤ 8388608 → matrix_in (text m) ≡ Ok m

-- values from -2^63 to 2^63 - 1
abbrev pub AreCells : List ℤ → Type 0
AreCells [] = Unit {0}
AreCells (v ∷ vs) = FitsSigned w64 v × AreCells vs

-- a dense matrix within the limits
pub record IsGrid (d : Grid) : Type 0 where
  pub rows : IsSide d.rows
  pub cols : IsSide d.cols
  pub size : d.rows * d.cols ≤ 33554432
  pub count : length d.cells ≡ d.rows * d.cols
  pub cells : AreCells d.cells

-- the canonical text of a dense matrix within the limits is read as that matrix
abbrev pub ArrayTextReads : Type 0
ArrayTextReads = (d : Grid) → IsGrid d → array_in (array_text d) ≡ Ok d
