-- Which programs are right kernels for a format, a shape and a number of columns.
use Rattle.std.specs.Prelude.{◌≡◌, ℕ, ◌+◌, ◌*◌, ◌≤◌, List, [], ◌∷◌, ◌++◌, length, ℤ}
use Rattle.us_format.specs.Matrix.{Shape, Entry, IsMatrixOf}
use Rattle.us_format.specs.Declaration.{Declaration}
use Rattle.us_format.specs.Buffers.{buffers, size}
use Rattle.us_format.specs.Reading.{limit, total_count}
use Rattle.us_code.specs.Limits.{KeepsLimits}
use Rattle.us_code.specs.Plain.{ProgramTree}
use Rattle.us_code.specs.Runs.{Gave, run}
use Rattle.us_code.specs.Typing.{TypedProgram}
use Rattle.us_gen_product.specs.Dense.{IsDense}
use Rattle.us_gen_listing.specs.Unpack.{level_count, query_count}

-- the most steps: in proportion to the size and the products, for each level and query
abbrev pub most_steps : Declaration → Shape → List Entry → ℕ → ℕ
most_steps f s m columns = 256 * ((2 + level_count f + query_count f) * (size s f m + length m * columns + 1))

-- the program gives the cells of the product, column after column, from the buffers of a matrix and the cells of an operand behind them, in so many steps
pub record GivesProduct (p : ProgramTree) (f : Declaration) (s : Shape) (columns : ℕ) (m : List Entry) (xs : List ℤ) : Type 0 where
  pub cells : List ℤ
  pub steps : ℕ
  pub dense : IsDense s m columns xs cells
  pub gives : run p (buffers s f m ++ xs ∷ []) ≡ Gave (cells ∷ []) steps
  pub few : steps ≤ most_steps f s m columns

-- a typed program within the limits of text, which multiplies every matrix of the shape whose size is within the limit by every operand of so many columns
pub record IsRightKernel (p : ProgramTree) (f : Declaration) (s : Shape) (columns : ℕ) : Type 0 where
  pub typed : TypedProgram p
  pub limits : KeepsLimits p
  pub sources : p.sources ≡ total_count f + 1
  pub multiplies :
      (m : List Entry) (xs : List ℤ) → IsMatrixOf s m → size s f m ≤ limit → length xs ≡ s.cols * columns → s.cols * columns ≤ 33554432
      → s.rows * columns ≤ 33554432 → GivesProduct p f s columns m xs
