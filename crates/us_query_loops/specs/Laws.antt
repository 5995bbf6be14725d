-- The laws. Entries stand in columns in any order.
use Rattle.std.specs.Prelude.{ℕ, suc, ◌+◌, ◌-◌, ◌*◌, ◌<◌, ◌≤◌, ◌≡◌, ◌≢◌, ℤ, pos, ◌-ℤ◌, List, [], ◌∷◌, ◌++◌, length, take, slice_get, slice_index_or, slice_set, nat_eq, if◌then◌else◌, IsFalse, Some}
use Rattle.std.specs.List.{count_by, filter}
use Rattle.std.specs.List.Sorted.{IsPermutation}
use Rattle.std.proofs.Common.{replicate}
use Rattle.us_code.specs.Sort.{ordered}
use Rattle.us_expr.specs.declared.queries.Axis.{Axis}
use Rattle.us_expr.specs.Tree.{Tree, RowIndex, ColIndex}
use Rattle.us_format.specs.Lists.{among}
use Rattle.us_format.specs.Matrix.{Entry, Shape, IsMatrixOf, index_at, indices}
use Rattle.us_format.specs.Declaration.{Query, SumOf, Enumerate, Reorder, Schedule, Part, Declaration, axis_of, defined}
use Rattle.us_format.specs.Queries.{plain_value, sum_at, enumerate_at, enumerate_extent, weight, rank_of, order_cell, lane_at, slot_at, schedule_extent, rows_cell, variable_at}
use Rattle.us_format.specs.Buffers.{parts_of}
use Rattle.us_format.specs.Reading.{limit}
use Rattle.us_query_loops.specs.Sorted.{entry_at, value_column, place_at, value_at_rank, AreValues, IsOrder, NeverFalls, AreTiesRowMajor}
use Rattle.us_query_loops.specs.Runs.{start_at, most_at, length_at, filled_at}
use Rattle.us_query_loops.specs.Ranks.{downwards, by_weight}
use Rattle.us_query_loops.specs.Loads.{loads_after, used_after, low_at, lane_for, slot_for, extent_after, rows_after}
use Rattle.us_query_loops.specs.Chosen.{goes_to}

-- ---- orders

-- what an `order` of the places by these keys writes
pub record AreOrdered (es : List Entry) : Type 0 where
  pub once : (keys : List (List ℤ)) (n : ℕ) → IsOrder n (ordered keys n)
  -- the column of a value, read at the places
  pub read :
      (e : Tree) (places : List ℕ) → IsOrder (length es) places → AreValues es places e (λ x. slice_index_or (value_column e es) (place_at places x) (pos 0))
  -- by the first key
  pub by_value :
      (e : Tree) (more : List (List ℤ)) → NeverFalls (value_at_rank es (ordered (value_column e es ∷ more) (length es)) e) (length es)
  -- by the value, the row and the column, an index that is the value itself not named again
  pub by_value_row_column :
      (e : Tree) → AreTiesRowMajor es (ordered (value_column e es ∷ value_column RowIndex es ∷ value_column ColIndex es ∷ []) (length es)) e
  pub by_row_column : AreTiesRowMajor es (ordered (value_column RowIndex es ∷ value_column ColIndex es ∷ []) (length es)) RowIndex
  pub by_column_row : AreTiesRowMajor es (ordered (value_column ColIndex es ∷ value_column RowIndex es ∷ []) (length es)) ColIndex

abbrev pub OrdersSort : Type 0
OrdersSort = (s : Shape) (m es : List Entry) → IsMatrixOf s m → IsPermutation m es → AreOrdered es

-- ---- enumerate and sum

-- no entry has the value that stands for none
abbrev pub IsUnused : ℤ → Tree → List Entry → Type 0
IsUnused none e es = (y : ℕ) → y < length es → plain_value e (entry_at es y) ≢ none

-- sorted by the value and row-major: the place in the run is how many entries with the value are earlier, the longest run the extent
pub record RunsEnumerate (m es : List Entry) (e : Tree) (places : List ℕ) (value : ℕ → ℤ) (none : ℤ) : Type 0 where
  pub start : (x : ℕ) → x < length es → start_at none value (suc x) ≤ x
  pub place : (x : ℕ) → x < length es → x - start_at none value (suc x) ≡ enumerate_at m e (entry_at es (place_at places x))
  pub column : (y : ℕ) → y < length es → filled_at places (λ x. x - start_at none value (suc x)) (length es) y ≡ enumerate_at m e (entry_at es y)
  pub extent : most_at none value (length es) ≡ enumerate_extent m e

abbrev pub RunsAreEnumerated : Type 0
RunsAreEnumerated =
    (m es : List Entry) (e : Tree) (places : List ℕ) (value : ℕ → ℤ) (none : ℤ)
    → IsPermutation m es → IsOrder (length es) places → NeverFalls (value_at_rank es places e) (length es) → AreTiesRowMajor es places e
    → AreValues es places e value → IsUnused none e es → RunsEnumerate m es e places value none

-- sorted by the value: the length of the run is how many entries have the value
pub record RunsSum (m es : List Entry) (e : Tree) (places : List ℕ) (value : ℕ → ℤ) (none : ℤ) : Type 0 where
  pub start : (x : ℕ) → x < length es → start_at none value (suc x) ≤ x
  pub sum : (x : ℕ) → x < length es → length_at none value (length es) (start_at none value (suc x)) ≡ sum_at m e (entry_at es (place_at places x))
  pub starts : (y : ℕ) → y < length es → filled_at places (λ x. start_at none value (suc x)) (length es) y < length es
  pub column :
      (y : ℕ) → y < length es
      → length_at none value (length es) (filled_at places (λ x. start_at none value (suc x)) (length es) y) ≡ sum_at m e (entry_at es y)

abbrev pub RunsAreSummed : Type 0
RunsAreSummed =
    (m es : List Entry) (e : Tree) (places : List ℕ) (value : ℕ → ℤ) (none : ℤ)
    → IsPermutation m es → IsOrder (length es) places → NeverFalls (value_at_rank es places e) (length es) → AreValues es places e value
    → IsUnused none e es → RunsSum m es e places value none

-- ---- reorder

-- counts of the entries passed, and what the order by them gives
pub record CountsRank (s : Shape) (m es : List Entry) (axis : Axis) : Type 0 where
  pub none : (a : ℕ) → weight (take 0 es) axis a ≡ 0
  pub more :
      (x a : ℕ) → x < length es → weight (take (suc x) es) axis a ≡ weight (take x es) axis a + (if nat_eq (index_at axis (entry_at es x)) a then 1 else 0)
  pub all : (a : ℕ) → weight (take (length es) es) axis a ≡ weight m axis a
  pub down : (n : ℕ) → downwards n -ℤ pos 1 ≡ downwards (suc n)
  pub order : (x : ℕ) → x < indices axis s → place_at (by_weight m s axis) x ≡ order_cell m s axis x
  pub rank : (a : ℕ) → a < indices axis s → filled_at (by_weight m s axis) (λ x. x) (indices axis s) a ≡ rank_of m s axis a

abbrev pub CountsAreRanked : Type 0
CountsAreRanked = (s : Shape) (m es : List Entry) (axis : Axis) → IsPermutation m es → CountsRank s m es axis

-- ---- schedule

-- into n lanes, `high` being above all loads
pub record LoadsSchedule (s : Shape) (m : List Entry) (axis : Axis) (n high : ℕ) : Type 0 where
  pub no_loads : loads_after m axis n 0 ≡ replicate n 0
  pub no_slots : used_after m axis n 0 ≡ replicate n 0
  pub lane_below : (k : ℕ) → k < indices axis s → lane_for high m axis n k < n
  pub low : (k : ℕ) → k < indices axis s → low_at high (loads_after m axis n k) n ≡ slice_index_or (loads_after m axis n k) (lane_for high m axis n k) 0
  -- one index more
  pub loads :
      (k : ℕ) → k < indices axis s
      → loads_after m axis n (suc k) ≡ slice_set (loads_after m axis n k) (lane_for high m axis n k) (low_at high (loads_after m axis n k) n + weight m axis k)
  pub slots :
      (k : ℕ) → k < indices axis s
      → used_after m axis n (suc k) ≡ slice_set (used_after m axis n k) (lane_for high m axis n k) (suc (slot_for high m axis n k))
  -- what they are in the end; the table has a cell for each index
  pub long : indices axis s ≤ n * schedule_extent m s axis n
  pub lane : (a : ℕ) → a < indices axis s → lane_for high m axis n a ≡ lane_at m s axis n a
  pub slot : (a : ℕ) → a < indices axis s → slot_for high m axis n a ≡ slot_at m s axis n a
  pub extent : extent_after high m axis n (indices axis s) ≡ schedule_extent m s axis n
  pub inside :
      (a : ℕ) → a < indices axis s
      → lane_for high m axis n a * schedule_extent m s axis n + slot_for high m axis n a < n * schedule_extent m s axis n
  pub rows :
      (x : ℕ) → x < n * schedule_extent m s axis n
      → rows_after high m axis n (schedule_extent m s axis n) (indices axis s) x ≡ rows_cell m s axis n x

abbrev pub LoadsAreScheduled : Type 0
LoadsAreScheduled =
    (s : Shape) (m : List Entry) (axis : Axis) (n high : ℕ) → 0 < n → length m < high → n * schedule_extent m s axis n ≤ limit → LoadsSchedule s m axis n high

-- ---- select

-- the entries that go to a part, in the order of the columns
pub record ConditionsChoose (s : Shape) (d : Declaration) (m es : List Entry) (k : ℕ) : Type 0 where
  pub part : (p : Part) → slice_get d.parts k ≡ Some p → slice_get (parts_of s d m) k ≡ Some (p, filter (goes_to m s d k) m)
  pub shuffled : IsPermutation (filter (goes_to m s d k) m) (filter (goes_to m s d k) es)
  pub more :
      (x : ℕ) → x < length es
      → filter (goes_to m s d k) (take (suc x) es)
      ≡ filter (goes_to m s d k) (take x es) ++ (if goes_to m s d k (entry_at es x) then entry_at es x ∷ [] else [])
  pub number : (x : ℕ) → length (filter (goes_to m s d k) (take x es)) ≡ count_by (goes_to m s d k) (take x es)

abbrev pub EntriesAreChosen : Type 0
EntriesAreChosen =
    (s : Shape) (d : Declaration) (m es : List Entry) → IsPermutation m es → length d.parts ≡ suc (length d.conds) → (k : ℕ) → ConditionsChoose s d m es k

-- ---- variables

-- a query gives its variables their values, unless an earlier one defines them
pub record QueriesDefine (m : List Entry) (s : Shape) (x : Entry) : Type 0 where
  pub later :
      (before after : List Query) (v : ℕ) → IsFalse (among v (defined before)) → variable_at m s (before ++ after) v x ≡ variable_at m s after v x
  pub sum : (v : ℕ) (e : Tree) (qs : List Query) → variable_at m s (SumOf v e ∷ qs) v x ≡ pos (sum_at m e x)
  pub enumerate : (v : ℕ) (e : Tree) (qs : List Query) → variable_at m s (Enumerate v e ∷ qs) v x ≡ pos (enumerate_at m e x)
  pub reorder :
      (v : ℕ) (t : Tree) (qs : List Query) → variable_at m s (Reorder v t ∷ qs) v x ≡ pos (rank_of m s (axis_of t) (index_at (axis_of t) x))
  pub lane :
      (l u : ℕ) (t : Tree) (n : ℕ) (qs : List Query)
      → variable_at m s (Schedule l u t n ∷ qs) l x ≡ pos (lane_at m s (axis_of t) n (index_at (axis_of t) x))
  pub slot :
      (l u : ℕ) (t : Tree) (n : ℕ) (qs : List Query) → l ≢ u
      → variable_at m s (Schedule l u t n ∷ qs) u x ≡ pos (slot_at m s (axis_of t) n (index_at (axis_of t) x))

abbrev pub QueriesDefineVariables : Type 0
QueriesDefineVariables = (m : List Entry) (s : Shape) (x : Entry) → QueriesDefine m s x
