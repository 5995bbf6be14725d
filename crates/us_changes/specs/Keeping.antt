-- The sets of a script that aren't undone.
use Rattle.std.specs.Prelude.{◌≡◌, ℕ, ◌<◌, List, [], ◌∷◌, map, ℤ, FitsSigned, if◌then◌else◌}
use Rattle.std.specs.Int.{w64}
use Rattle.std.specs.List.Sorted.{IsPermutation, IsNonDecreasingBy}
use Rattle.us_matrix.specs.declared.matrix.Triple.{Triple}
use Rattle.us_matrix.specs.Map.{Map, IsMatrix, place}
use Rattle.us_matrix.specs.Sums.{is_at}
use Rattle.us_script.specs.declared.step.Step.{Step}
use Rattle.us_changes.specs.Edits.{State, start, after_all, changed, as_step, edited}

-- the state behind some sets
abbrev pub made : List Triple → List Triple → State
made es ts = after_all (start es) (map as_step ts)

-- the entries behind some sets
abbrev pub put_all : List Triple → List Triple → List Triple
put_all [] es = es
put_all (t ∷ ts) es = put_all ts (changed t es)

-- the set lies in the shape and has a value
pub record IsPut (rows cols : ℕ) (t : Triple) : Type 0 where
  pub row : t.i < rows
  pub col : t.j < cols
  pub fits : FitsSigned w64 t.v

-- the value at (i, j) behind some sets, where it is v before them
abbrev pub last_value : List Triple → ℕ → ℕ → ℤ → ℤ
last_value [] i j v = v
last_value (t ∷ ts) i j v = last_value ts i j (if is_at i j t then t.v else v)

-- these are the entries of the matrix behind the steps, and it is a matrix
pub record IsEditedTo (m : Map) (steps : List Step) (es : List Triple) : Type 0 where
  pub entries : es ≡ (edited m steps).entries
  pub matrix : IsMatrix (edited m steps)

-- the same sets in row-major order, where those at one coordinate keep their order
pub record IsInOrder (old new : List Triple) : Type 0 where
  pub order : IsNonDecreasingBy place new
  pub permutation : IsPermutation old new
  pub values : (i j : ℕ) (v : ℤ) → last_value new i j v ≡ last_value old i j v
