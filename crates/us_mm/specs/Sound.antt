-- What holds of entries and of values that are read so far.
use Rattle.std.specs.Prelude.{◌≡◌, ◌≤◌, ◌*◌, ℕ, true, List, length, ℤ, All}
use Rattle.us_matrix.specs.declared.matrix.Triple.{Triple}
use Rattle.us_matrix.specs.declared.shape.Shape.{Shape}
use Rattle.us_matrix.specs.Map.{IsSide, IsInShape}
use Rattle.us_mm.specs.declared.entries.Size.{Size}
use Rattle.us_mm.specs.Forms.{allows}

-- the shape is one of this symmetry, the triples lie in it, and no more entry lines were read than are wanted
pub record IsSound (s : Size) (found : ℕ) (triples : List Triple) : Type 0 where
  pub rows : IsSide s.shape.rows
  pub cols : IsSide s.shape.cols
  pub square : allows s.form.symmetry s.shape.rows s.shape.cols ≡ true
  pub within : found ≤ s.count
  pub inside : All (IsInShape s.shape.rows s.shape.cols) triples

-- no more values than the shape has places
pub record IsRoomy (shape : Shape) (values : List ℤ) : Type 0 where
  pub rows : IsSide shape.rows
  pub cols : IsSide shape.cols
  pub size : shape.rows * shape.cols ≤ 33554432
  pub within : length values ≤ shape.rows * shape.cols
