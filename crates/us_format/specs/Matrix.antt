-- A matrix as the row-major list of its entries.
use Rattle.std.specs.Prelude.{ℕ, zero, suc, ◌<◌, ℤ, pos, negsuc, List, [], ◌∷◌, Bool, true, false, ◌&&◌, ◌||◌, nat_eq, nat_lt, if◌then◌else◌, IsTrue, IsFalse, Option, Some, None, All, AllPairs}
use Rattle.us_expr.specs.declared.queries.Axis.{Axis}
use Rattle.us_expr.specs.declared.queries.Axis.TheVariants.{Rows, Cols}
use Rattle.us_format.specs.Lists.{then_do}

-- how many rows and columns a matrix has
pub record Shape : Type 0 where
  pub rows : ℕ
  pub cols : ℕ

-- the value v at row i and column j, both counted from 0
pub record Entry : Type 0 where
  pub i : ℕ
  pub j : ℕ
  pub v : ℤ

-- whether a comes before b in row-major order
abbrev pub earlier : Entry → Entry → Bool
earlier a b = nat_lt a.i b.i || (nat_eq a.i b.i && nat_lt a.j b.j)

-- the row or the column of an entry
abbrev pub index_at : Axis → Entry → ℕ
index_at Rows x = x.i
index_at Cols x = x.j

-- how many rows or columns there are
abbrev pub indices : Axis → Shape → ℕ
indices Rows s = s.rows
indices Cols s = s.cols

-- whether a value is 0
abbrev pub is_zero : ℤ → Bool
is_zero (pos zero) = true
is_zero (pos (suc n)) = false
is_zero (negsuc n) = false

-- the list is a matrix of the shape: in row-major order, each coordinate once and in the shape, no value 0
pub record IsMatrixOf (s : Shape) (m : List Entry) : Type 0 where
  pub sorted : AllPairs (λ a b. IsTrue (earlier a b)) m
  pub rows : All (λ x. x.i < s.rows) m
  pub cols : All (λ x. x.j < s.cols) m
  pub nonzero : All (λ x. IsFalse (is_zero x.v)) m

-- the entry goes into its place of the row-major list, unless its coordinate is there
abbrev pub put : Entry → List Entry → Option (List Entry)
put e [] = Some (e ∷ [])
put e (y ∷ ys) = if earlier e y then Some (e ∷ y ∷ ys) else (if earlier y e then then_do (put e ys) (λ zs. Some (y ∷ zs)) else None)

-- the entry at a pair of indices, if the pair is in the shape
abbrev pub in_shape : Shape → ℤ × ℤ → ℤ → Option Entry
in_shape s (pos i, pos j) v = if nat_lt i s.rows && nat_lt j s.cols then Some (record { i = i; j = j; v = v }) else None
in_shape s (_, _) v = None
