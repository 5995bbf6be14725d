-- What a loop over the indices keeps that puts each into the first lane of least load.
use Rattle.std.specs.Prelude.{ℕ, zero, suc, ◌+◌, ◌*◌, max, List, map, length, slice_index_or, nat_eq, nat_lt, if◌then◌else◌}
use Rattle.us_expr.specs.declared.queries.Axis.{Axis}
use Rattle.us_format.specs.Matrix.{Entry}
use Rattle.us_format.specs.Queries.{load}
use Rattle.us_query.specs.Lanes.{lanes_after}

-- the load of each lane after k indices
abbrev pub loads_after : List Entry → Axis → ℕ → ℕ → List ℕ
loads_after m axis n k = map (load m axis) (lanes_after m axis n k)

-- how many slots of each lane are used after k indices
abbrev pub used_after : List Entry → Axis → ℕ → ℕ → List ℕ
used_after m axis n k = map length (lanes_after m axis n k)

-- the least of the first l loads, or `high`
abbrev pub low_at : ℕ → List ℕ → ℕ → ℕ
low_at high loads zero = high
low_at high loads (suc l) = if nat_lt (slice_index_or loads l 0) (low_at high loads l) then slice_index_or loads l 0 else low_at high loads l

-- the first of the first l lanes that has it
abbrev pub best_at : ℕ → List ℕ → ℕ → ℕ
best_at high loads zero = 0
best_at high loads (suc l) = if nat_lt (slice_index_or loads l 0) (low_at high loads l) then l else best_at high loads l

-- the lane of the index k, and its slot
abbrev pub lane_for : ℕ → List Entry → Axis → ℕ → ℕ → ℕ
lane_for high m axis n k = best_at high (loads_after m axis n k) n

abbrev pub slot_for : ℕ → List Entry → Axis → ℕ → ℕ → ℕ
slot_for high m axis n k = slice_index_or (used_after m axis n k) (lane_for high m axis n k) 0

-- the most slots that a lane has after k indices
abbrev pub extent_after : ℕ → List Entry → Axis → ℕ → ℕ → ℕ
extent_after high m axis n zero = 0
extent_after high m axis n (suc k) = max (extent_after high m axis n k) (suc (slot_for high m axis n k))

-- the table of lanes with so many slots after k indices: the index plus 1 at its lane and slot, 0 elsewhere
abbrev pub rows_after : ℕ → List Entry → Axis → ℕ → ℕ → ℕ → ℕ → ℕ
rows_after high m axis n extent zero x = 0
rows_after high m axis n extent (suc k) x =
    if nat_eq (lane_for high m axis n k * extent + slot_for high m axis n k) x then suc k else rows_after high m axis n extent k x
