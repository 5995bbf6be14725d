-- The run that a product is.
use Rattle.std.specs.Prelude.{◌≡◌, ℕ, ◌+◌, ◌*◌, ◌^◌, ◌<◌, ◌≤◌, ℤ, List, [], ◌∷◌, ◌++◌, All, length, None}
use Rattle.us_format.specs.Matrix.{IsMatrixOf}
use Rattle.us_format.specs.Program.{shape_in, entries_in}
use Rattle.us_format.specs.Buffers.{buffers, size}
use Rattle.us_format.specs.Reading.{limit, total_count}
use Rattle.us_decl.specs.Declares.{IsValid}
use Rattle.us_judge.specs.Acceptance.{first_refusal}
use Rattle.us_judge.specs.Views.{declaration_of}
use Rattle.us_check.specs.Kept.{Kept}
use Rattle.us_code.specs.Plain.{ProgramTree}
use Rattle.us_code.specs.Runs.{Gave, run}
use Rattle.us_matrix.specs.Grid.{Grid}

-- from the sources the program gives the lists, in so many steps
abbrev pub IsRunOf : ProgramTree → List (List ℤ) → List (List ℤ) → ℕ → Type 0
IsRunOf p sources lists steps = run p sources ≡ Gave lists steps

-- the program comes to its end, in fewer than 2 ^ 64 steps
pub record Ends (p : ProgramTree) (sources : List (List ℤ)) : Type 0 where
  pub lists : List (List ℤ)
  pub steps : ℕ
  pub gives : run p sources ≡ Gave lists steps
  pub few : steps < 2 ^ 64

-- the buffers of a held matrix and the cells of an operand as sources: as many as the format has, and one more, each within the limit; the format is accepted
pub record AreFactors (k : Kept) (x : Grid) : Type 0 where
  pub valid : IsValid k.declared
  pub accepted : first_refusal (declaration_of k.declared) ≡ None
  pub matrix : IsMatrixOf (shape_in k.matrix) (entries_in k.matrix)
  pub built : k.buffers ≡ buffers (shape_in k.matrix) (declaration_of k.declared) (entries_in k.matrix)
  pub small : size (shape_in k.matrix) (declaration_of k.declared) (entries_in k.matrix) ≤ limit
  pub count : length (k.buffers ++ x.cells ∷ []) ≡ total_count (declaration_of k.declared) + 1
  pub short : All (λ cells. length cells ≤ limit) (k.buffers ++ x.cells ∷ [])
  pub operand : length x.cells ≡ k.matrix.cols * x.cols
