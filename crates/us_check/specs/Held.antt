-- What holds of a matrix that is held in a format.
use Rattle.std.specs.Prelude.{◌≡◌, ◌≤◌, Some}
use Rattle.us_format.specs.Program.{shape_in, entries_in}
use Rattle.us_format.specs.Buffers.{buffers, size}
use Rattle.us_format.specs.Reading.{limit}
use Rattle.us_format.specs.Meaning.{meaning}
use Rattle.us_judge.specs.Views.{declaration_of}
use Rattle.us_check.specs.Kept.{Kept}

-- the buffers are those of the matrix, within the limit, and mean the matrix
pub record IsHeld (k : Kept) : Type 0 where
  pub built : k.buffers ≡ buffers (shape_in k.matrix) (declaration_of k.declared) (entries_in k.matrix)
  pub small : size (shape_in k.matrix) (declaration_of k.declared) (entries_in k.matrix) ≤ limit
  pub means : meaning (shape_in k.matrix) (declaration_of k.declared) k.buffers ≡ Some (entries_in k.matrix)
