-- Columns of entries, and orders of their places.
use Rattle.std.specs.Prelude.{ℕ, ◌<◌, ◌≡◌, ℤ, pos, Bool, List, map, length, slice_index_or, IsTrue, IsFalse}
use Rattle.std.specs.List.{count_by, range_with_len}
use lib.Signed.{lt_z}
use Rattle.us_expr.specs.Tree.{Tree}
use Rattle.us_format.specs.Matrix.{Entry, earlier}
use Rattle.us_format.specs.Queries.{plain_value}

-- the entry at a place of the columns
abbrev pub entry_at : List Entry → ℕ → Entry
entry_at es y = slice_index_or es y (record { i = 0; j = 0; v = pos 0 })

-- the values of an expression, the column of a key
abbrev pub value_column : Tree → List Entry → List ℤ
value_column e es = map (plain_value e) es

-- the place at a rank
abbrev pub place_at : List ℕ → ℕ → ℕ
place_at places x = slice_index_or places x 0

-- the value of an expression at the entry of a rank
abbrev pub value_at_rank : List Entry → List ℕ → Tree → ℕ → ℤ
value_at_rank es places e x = plain_value e (entry_at es (place_at places x))

-- what a loop reads at the ranks is the values of an expression
abbrev pub AreValues : List Entry → List ℕ → Tree → (ℕ → ℤ) → Type 0
AreValues es places e value = (x : ℕ) → x < length es → value x ≡ value_at_rank es places e x

-- each number below n once
pub record IsOrder (n : ℕ) (places : List ℕ) : Type 0 where
  pub long : length places ≡ n
  pub below : (x : ℕ) → x < n → place_at places x < n
  pub apart : (x y : ℕ) → x < n → y < n → place_at places x ≡ place_at places y → x ≡ y
  pub each : (y : ℕ) → y < n → (x : ℕ) × (x < n) × (place_at places x ≡ y)
  pub counts : (p : ℕ → Bool) → count_by p places ≡ count_by p (range_with_len 0 n)

-- the first n values don't fall
abbrev pub NeverFalls : (ℕ → ℤ) → ℕ → Type 0
NeverFalls value n = (x y : ℕ) → x < y → y < n → IsFalse (lt_z (value y) (value x))

-- entries of one value are in row-major order
abbrev pub AreTiesRowMajor : List Entry → List ℕ → Tree → Type 0
AreTiesRowMajor es places e =
    (x y : ℕ) → x < y → y < length es → value_at_rank es places e x ≡ value_at_rank es places e y
    → IsTrue (earlier (entry_at es (place_at places x)) (entry_at es (place_at places y)))
