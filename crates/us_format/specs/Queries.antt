-- What the variables of a part are at an entry, by counts of the part's entries.
use Rattle.std.specs.Prelude.{slice_get, ℕ, zero, suc, ◌/◌, ◌%◌, ℤ, pos, List, [], ◌∷◌, ◌++◌, map, length, ◌&&◌, ◌||◌, nat_eq, nat_lt, if◌then◌else◌, Option, Some, None}
use Rattle.std.specs.List.{count_by, range_with_len, fold, sum_by, position_or_len}
use Rattle.std.specs.Ordering.{int_eq}
use Rattle.us_expr.specs.declared.queries.Axis.{Axis}
use Rattle.us_expr.specs.Tree.{Tree}
use Rattle.us_expr.specs.Value.{value}
use Rattle.us_format.specs.Lists.{first_from, among, greatest, nth}
use Rattle.us_format.specs.Matrix.{Entry, Shape, earlier, index_at, indices}
use Rattle.us_format.specs.Declaration.{Query, SumOf, Enumerate, Reorder, Schedule, Part, axis_of}

-- the value at an entry of an expression without variables
abbrev pub plain_value : Tree → Entry → ℤ
plain_value e x = value (pos x.i) (pos x.j) [] e

-- ---- sum and enumerate

-- how many entries have the entry's value of e
abbrev pub sum_at : List Entry → Tree → Entry → ℕ
sum_at m e x = count_by (λ y. int_eq (plain_value e y) (plain_value e x)) m

-- how many of these come before the entry
abbrev pub enumerate_at : List Entry → Tree → Entry → ℕ
enumerate_at m e x = count_by (λ y. earlier y x && int_eq (plain_value e y) (plain_value e x)) m

-- the greatest number of entries with one value of e
abbrev pub enumerate_extent : List Entry → Tree → ℕ
enumerate_extent m e = greatest (map (sum_at m e) m)

-- ---- reorder

-- how many entries an index has
abbrev pub weight : List Entry → Axis → ℕ → ℕ
weight m axis a = count_by (λ y. nat_eq (index_at axis y) a) m

-- the rank of an index: how many indices have more entries, or as many and a lower number
abbrev pub rank_of : List Entry → Shape → Axis → ℕ → ℕ
rank_of m s axis a =
    count_by (λ b. nat_lt (weight m axis a) (weight m axis b) || (nat_eq (weight m axis a) (weight m axis b) && nat_lt b a)) (range_with_len 0 (indices axis s))

-- the number, or 0
abbrev pub or_zero : Option ℕ → ℕ
or_zero None = 0
or_zero (Some a) = a

-- the index with the rank x
abbrev pub order_cell : List Entry → Shape → Axis → ℕ → ℕ
order_cell m s axis x = or_zero (first_from (λ a. nat_eq (rank_of m s axis a) x) 0 (indices axis s))

-- ---- schedule: the lanes, each the list of its indices

-- how many entries the indices of a lane have
abbrev pub load : List Entry → Axis → List ℕ → ℕ
load m axis lane = sum_by (weight m axis) lane

-- the least of a and the numbers
abbrev pub least : List ℕ → ℕ → ℕ
least [] a = a
least (b ∷ bs) a = least bs (if nat_lt b a then b else a)

-- the least load of a lane
abbrev pub least_load : List Entry → Axis → List (List ℕ) → ℕ
least_load m axis [] = 0
least_load m axis (lane ∷ lanes) = least (map (load m axis) lanes) (load m axis lane)

-- the index a goes to the end of the first lane whose load is `low`
abbrev pub put_in : List Entry → Axis → ℕ → ℕ → List (List ℕ) → List (List ℕ)
put_in m axis low a [] = []
put_in m axis low a (lane ∷ lanes) = if nat_eq (load m axis lane) low then (lane ++ a ∷ []) ∷ lanes else lane ∷ put_in m axis low a lanes

-- n lanes without an index
abbrev pub empty_lanes : ℕ → List (List ℕ)
empty_lanes zero = []
empty_lanes (suc n) = [] ∷ empty_lanes n

-- the lanes after all indices in turn, each put into the first lane of least load
abbrev pub lanes_of : List Entry → Shape → Axis → ℕ → List (List ℕ)
lanes_of m s axis n = fold (λ lanes a. put_in m axis (least_load m axis lanes) a lanes) (empty_lanes n) (range_with_len 0 (indices axis s))

-- the lane of an index
abbrev pub lane_at : List Entry → Shape → Axis → ℕ → ℕ → ℕ
lane_at m s axis n a = position_or_len (among a) (lanes_of m s axis n)

-- its place in the lane
abbrev pub slot_at : List Entry → Shape → Axis → ℕ → ℕ → ℕ
slot_at m s axis n a = position_or_len (nat_eq a) (nth (lanes_of m s axis n) (lane_at m s axis n a))

-- the greatest number of indices in a lane
abbrev pub schedule_extent : List Entry → Shape → Axis → ℕ → ℕ
schedule_extent m s axis n = greatest (map length (lanes_of m s axis n))

-- the number plus 1, or 0 where there is none
abbrev pub plus_one : Option ℕ → ℕ
plus_one None = 0
plus_one (Some a) = suc a

-- the index at the lane x / extent and the slot x % extent, plus 1; 0 where there is none
abbrev pub rows_cell : List Entry → Shape → Axis → ℕ → ℕ → ℕ
rows_cell m s axis n x = let extent = schedule_extent m s axis n in plus_one (slice_get (nth (lanes_of m s axis n) (x / extent)) (x % extent))

-- ---- variables

-- the value at an entry of the variable v, by the first query that defines it
abbrev pub variable_at : List Entry → Shape → List Query → ℕ → Entry → ℤ
variable_at m s [] v x = pos 0
variable_at m s (SumOf w e ∷ qs) v x = let rest = variable_at m s qs v x in if nat_eq w v then pos (sum_at m e x) else rest
variable_at m s (Enumerate w e ∷ qs) v x = let rest = variable_at m s qs v x in if nat_eq w v then pos (enumerate_at m e x) else rest
variable_at m s (Reorder w t ∷ qs) v x =
    let rest = variable_at m s qs v x in if nat_eq w v then pos (rank_of m s (axis_of t) (index_at (axis_of t) x)) else rest
variable_at m s (Schedule l u t n ∷ qs) v x =
    let rest = variable_at m s qs v x in
    if nat_eq l v then pos (lane_at m s (axis_of t) n (index_at (axis_of t) x)) else (if nat_eq u v then pos (slot_at m s (axis_of t) n (index_at (axis_of t) x)) else rest)

-- the values at an entry of all variables of a part
abbrev pub variables_at : List Entry → Shape → Part → Entry → List ℤ
variables_at m s p x = map (λ v. variable_at m s p.queries v x) (range_with_len 0 p.names)

-- the extent of a query, 0 of one that has none
abbrev pub extent_of : List Entry → Shape → Query → ℕ
extent_of m s (SumOf v e) = 0
extent_of m s (Enumerate v e) = enumerate_extent m e
extent_of m s (Reorder v t) = 0
extent_of m s (Schedule l u t n) = schedule_extent m s (axis_of t) n

-- the extents of all queries of a part
abbrev pub extents_of : List Entry → Shape → Part → List ℕ
extents_of m s p = map (extent_of m s) p.queries
