-- Rows in the order of their keys.
use Rattle.std.specs.Prelude.{◌≡◌, ◌⊎◌, ℕ, ◌<◌, List, [], ◌∷◌, map, length, slice_index_or, IsTrue, ℤ, pos}
use Rattle.std.specs.List.Sorted.{IsPermutation}
use Rattle.us_code.specs.Sort.{ordered}
use Rattle.us_format.specs.Kinds.{Level}
use Rattle.us_format.specs.Lists.{cell, head, tail}
use Rattle.us_format.specs.Matrix.{Shape, Entry, IsMatrixOf}
use Rattle.us_format.specs.Declaration.{Part}
use Rattle.us_format.specs.Positions.{Row, rows_of}
use Rattle.us_format.specs.Rules.{IsLawful}
use Rattle.us_format_loops.specs.Laws.{levels_on}
use Rattle.us_gen_build_laws.specs.Rows.{row, nodes_within}
use Rattle.us_gen_build_laws.specs.Ready.{AreSorted}

-- the keys are the first coordinates of n rows, one list for each level
abbrev pub HoldKeys : List (List ℤ) → ℕ → (ℕ → List ℕ) → Type 0
HoldKeys [] n rest = Unit {0}
HoldKeys (key ∷ keys) n rest = ((x : ℕ) → x < n → cell key x ≡ pos (head (rest x))) × HoldKeys keys n (λ x. tail (rest x))

-- the keys of all levels, or of the first, behind which no level is compressed or listed
abbrev pub AreEnough : ℕ → List Level → Type 0
AreEnough k ls = (k ≡ length ls) ⊎ IsTrue (nodes_within k ls)

-- which of n rows turn x takes in the order of the keys
abbrev pub place_of : List (List ℤ) → ℕ → ℕ → ℕ
place_of keys n x = slice_index_or (ordered keys n) x 0

-- the rows in the order of their keys
abbrev pub in_order : List (List ℤ) → List Row → List Row
in_order keys rows = map (row rows) (ordered keys (length rows))

-- in the order of the keys they are the part's rows, and sorted
pub record AreInOrder (s : Shape) (p : Part) (m : List Entry) (keys : List (List ℤ)) (rows : List Row) : Type 0 where
  pub permutation : IsPermutation (rows_of m s p) (in_order keys rows)
  pub sorted : AreSorted (levels_on s p m) (in_order keys rows)
  pub count : length (in_order keys rows) ≡ length rows
  pub turn : (x : ℕ) → x < length rows → row (in_order keys rows) x ≡ row rows (place_of keys (length rows) x)
  pub within : (x : ℕ) → x < length rows → place_of keys (length rows) x < length rows

abbrev pub OrdersSort : Type 0
OrdersSort =
    (s : Shape) (p : Part) (m : List Entry) (rows : List Row) (keys : List (List ℤ)) → IsLawful p → IsMatrixOf s m → IsPermutation (rows_of m s p) rows
    → HoldKeys keys (length rows) (λ x. (row rows x).rest) → AreEnough (length keys) (levels_on s p m) → AreInOrder s p m keys rows
