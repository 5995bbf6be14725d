-- Whether a recovery of plain data can be run, as a test that computes.
use Rattle.std.specs.Prelude.{ℕ, ◌^◌, ℤ, pos, ◌+ℤ◌, int_le, int_lt, List, [], ◌∷◌, length, Bool, true, false, ◌&&◌, nat_lt, nat_le}
use Rattle.us_expr.specs.declared.ranges.Range.{Range}
use Rattle.us_expr.specs.Tree.{Tree, node_count, RowIndex, ColIndex, Number, Variable, Sum, Difference, Quotient, Remainder}
use Rattle.us_expr.specs.Range.{range}
use Rattle.us_format.specs.Declaration.{Query, argument}
use Rattle.us_format.specs.Coordinates.{span}

-- whether constants and divisors are in their limits, and each variable is one of n
abbrev pub is_within : ℕ → Tree → Bool
is_within n RowIndex = true
is_within n ColIndex = true
is_within n (Number c) = nat_lt c (2 ^ 31)
is_within n (Variable v) = nat_lt v n
is_within n (Sum a b) = is_within n a && is_within n b
is_within n (Difference a b) = is_within n a && is_within n b
is_within n (Quotient a k) = nat_lt 0 k && (nat_lt k (2 ^ 31) && is_within n a)
is_within n (Remainder a k) = nat_lt 0 k && (nat_lt k (2 ^ 31) && is_within n a)

-- whether a number is at most 2^31 in size
abbrev pub is_near : ℤ → Bool
is_near z = int_le (pos 0) (z +ℤ pos (2 ^ 31)) && int_le z (pos (2 ^ 31))

-- whether the ends of all ranges are
abbrev pub are_near : List Range → Bool
are_near [] = true
are_near (r ∷ rs) = (is_near r.lo && is_near r.hi) && are_near rs

-- whether all expressions are valid
abbrev pub are_valid : ℕ → List Tree → Bool
are_valid n [] = true
are_valid n (e ∷ es) = (nat_le (node_count e) 32 && is_within n e) && are_valid n es

-- whether all arguments are valid
abbrev pub are_valid_arguments : ℕ → List Query → Bool
are_valid_arguments n [] = true
are_valid_arguments n (q ∷ qs) = (nat_le (node_count (argument q)) 32 && is_within n (argument q)) && are_valid_arguments n qs

-- whether there is a coordinate in the range of each level
abbrev pub are_coordinates : ℕ → ℕ → List Range → List ℤ → List Tree → Bool
are_coordinates rows cols vars values [] = true
are_coordinates rows cols vars [] (e ∷ es) = false
are_coordinates rows cols vars (v ∷ values) (e ∷ es) = (int_le (pos 0) v && int_lt v (pos (span (range rows cols vars e)))) && are_coordinates rows cols vars values es

-- whether the levels, the queries and the coordinates allow a recovery
abbrev pub can_run : List Tree → List Query → ℕ → ℕ → List Range → List ℤ → Bool
can_run levels queries rows cols vars values =
    (nat_le (length levels) 6 && nat_le (length queries) 16) && ((nat_lt rows (2 ^ 31) && nat_lt cols (2 ^ 31)) && (are_near vars && (are_valid (length vars) levels
    && (are_valid_arguments (length vars) queries && are_coordinates rows cols vars values levels))))
