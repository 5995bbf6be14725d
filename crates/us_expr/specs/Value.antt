-- The value of an expression at a point. A quotient is the floor quotient, a remainder is never negative.
use Rattle.std.specs.Prelude.{ℕ, ◌^◌, ◌<◌, ◌≤◌, ℤ, pos, ◌+ℤ◌, ◌-ℤ◌, ◌≤ℤ◌, ◌<ℤ◌, List, length, get_or}
use Rattle.std.specs.Int.{int_div_euclid, int_rem_euclid}
use Rattle.us_expr.specs.Tree.{Tree, node_count, RowIndex, ColIndex, Number, Variable, Sum, Difference, Quotient, Remainder}

-- the value where the indices are i and j and the variables have the values vs
abbrev pub value : ℤ → ℤ → List ℤ → Tree → ℤ
value i j vs RowIndex = i
value i j vs ColIndex = j
value i j vs (Number c) = pos c
value i j vs (Variable v) = get_or vs v (pos 0)
value i j vs (Sum a b) = value i j vs a +ℤ value i j vs b
value i j vs (Difference a b) = value i j vs a -ℤ value i j vs b
value i j vs (Quotient a k) = int_div_euclid (value i j vs a) (pos k)
value i j vs (Remainder a k) = int_rem_euclid (value i j vs a) (pos k)

-- constants and divisors are in their limits, and each variable is one of n
abbrev pub IsWithin : ℕ → Tree → Type 0
IsWithin n RowIndex = Unit {0}
IsWithin n ColIndex = Unit {0}
IsWithin n (Number c) = c < 2 ^ 31
IsWithin n (Variable v) = v < n
IsWithin n (Sum a b) = IsWithin n a × IsWithin n b
IsWithin n (Difference a b) = IsWithin n a × IsWithin n b
IsWithin n (Quotient a k) = (0 < k) × (k < 2 ^ 31) × IsWithin n a
IsWithin n (Remainder a k) = (0 < k) × (k < 2 ^ 31) × IsWithin n a

-- a valid expression whose variables have values
pub record IsValid (vs : List ℤ) (e : Tree) : Type 0 where
  pub small : node_count e ≤ 32
  pub within : IsWithin (length vs) e

-- a number that an index or a variable may be: from 0 to 2^31 - 1
abbrev pub IsIndex : ℤ → Type 0
IsIndex z = (pos 0 ≤ℤ z) × (z <ℤ pos (2 ^ 31))

-- indices and variables of an entry
pub record IsPoint (i j : ℤ) (vs : List ℤ) : Type 0 where
  pub row : IsIndex i
  pub col : IsIndex j
  pub each : (v : ℕ) → v < length vs → IsIndex (get_or vs v (pos 0))
