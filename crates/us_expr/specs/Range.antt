-- The range of an expression, by the ranges of the indices and variables.
use Rattle.std.specs.Prelude.{ℕ, ◌^◌, ◌<◌, ◌≤◌, ℤ, pos, ◌+ℤ◌, ◌-ℤ◌, ◌≤ℤ◌, List, length, get_or, cond, true, ◌≡◌}
use Rattle.std.specs.Int.{int_div_euclid, int_rem_euclid}
use Rattle.std.specs.Ordering.{int_eq}
use Rattle.us_expr.specs.Tree.{Tree, node_count, uses, RowIndex, ColIndex, Number, Variable, Sum, Difference, Quotient, Remainder}
use Rattle.us_expr.specs.Value.{IsWithin}
use Rattle.us_expr.specs.declared.ranges.Range.{Range}

-- the range of the variable v
abbrev pub range_at : List Range → ℕ → Range
range_at rs v = get_or rs v (record { lo = pos 0; hi = pos 0 })

-- the range of an index below n
abbrev pub index_range : ℕ → Range
index_range n = record { lo = pos 0; hi = pos n -ℤ pos 1 }

-- the remainders by k of the numbers of a range: from end to end where both ends have one quotient, else all from 0 to k - 1
abbrev pub range_of_remainder : Range → ℕ → Range
range_of_remainder r k =
    cond (int_eq (int_div_euclid r.lo (pos k)) (int_div_euclid r.hi (pos k)))
    (record { lo = int_rem_euclid r.lo (pos k); hi = int_rem_euclid r.hi (pos k) })
    (record { lo = pos 0; hi = pos k -ℤ pos 1 })

-- the range where there are m rows and n columns and the variables have the ranges rs
abbrev pub range : ℕ → ℕ → List Range → Tree → Range
range m n rs RowIndex = index_range m
range m n rs ColIndex = index_range n
range m n rs (Number c) = record { lo = pos c; hi = pos c }
range m n rs (Variable v) = range_at rs v
range m n rs (Sum a b) = record { lo = (range m n rs a).lo +ℤ (range m n rs b).lo; hi = (range m n rs a).hi +ℤ (range m n rs b).hi }
range m n rs (Difference a b) = record { lo = (range m n rs a).lo -ℤ (range m n rs b).hi; hi = (range m n rs a).hi -ℤ (range m n rs b).lo }
range m n rs (Quotient a k) = record { lo = int_div_euclid (range m n rs a).lo (pos k); hi = int_div_euclid (range m n rs a).hi (pos k) }
range m n rs (Remainder a k) = range_of_remainder (range m n rs a) k

-- z is at most b in size
pub record IsNear (b : ℕ) (z : ℤ) : Type 0 where
  pub low : pos 0 ≤ℤ (z +ℤ pos b)
  pub high : z ≤ℤ pos b

-- a valid expression whose variables have ranges, with ends of at most 2^31 in size
pub record IsRangeable (rs : List Range) (e : Tree) : Type 0 where
  pub small : node_count e ≤ 32
  pub within : IsWithin (length rs) e
  pub low : (v : ℕ) → v < length rs → IsNear (2 ^ 31) (range_at rs v).lo
  pub high : (v : ℕ) → v < length rs → IsNear (2 ^ 31) (range_at rs v).hi

-- z lies in the range r
pub record LiesIn (z : ℤ) (r : Range) : Type 0 where
  pub low : r.lo ≤ℤ z
  pub high : z ≤ℤ r.hi

-- the indices of a point lie in their ranges, and so does each variable that stands in e
pub record PointLiesIn (m n : ℕ) (rs : List Range) (i j : ℤ) (vs : List ℤ) (e : Tree) : Type 0 where
  pub row : LiesIn i (index_range m)
  pub col : LiesIn j (index_range n)
  pub each : (v : ℕ) → uses e v ≡ true → LiesIn (get_or vs v (pos 0)) (range_at rs v)
