-- Worked rows: what a loop keeps on a small matrix, compared with numbers worked out by hand.
use Rattle.std.specs.Prelude.{ℕ, ◌-◌, suc, ℤ, pos, negsuc, List, [], ◌∷◌, map, true, ◌≡◌}
use Rattle.std.specs.List.{filter, range_with_len}
use Rattle.us_code.specs.Sort.{ordered}
use Rattle.us_expr.specs.declared.queries.Axis.TheVariants.{Cols}
use Rattle.us_expr.specs.declared.queries.Cond.{Cond}
use Rattle.us_expr.specs.Tree.{RowIndex, ColIndex}
use Rattle.us_format.specs.Matrix.{Entry, Shape}
use Rattle.us_format.specs.Declaration.{Declaration, Enumerate}
use Rattle.us_query_loops.specs.Sorted.{value_column, value_at_rank}
use Rattle.us_query_loops.specs.Runs.{start_at, most_at, length_at, filled_at}
use Rattle.us_query_loops.specs.Ranks.{weight_column, by_weight}
use Rattle.us_query_loops.specs.Loads.{loads_after, used_after, lane_for, slot_for, extent_after, rows_after}
use Rattle.us_query_loops.specs.Chosen.{goes_to}

-- ---- the sample: 3 rows, the second of them empty, 4 columns, the third of them empty

abbrev pub sample_shape : Shape
sample_shape = record { rows = 3; cols = 4 }

abbrev pub entry_of : ℕ → ℕ → ℤ → Entry
entry_of i j v = record { i = i; j = j; v = v }

abbrev pub sample : List Entry
sample = entry_of 0 0 (pos 1) ∷ entry_of 0 1 (pos 2) ∷ entry_of 0 3 (pos 3) ∷ entry_of 2 1 (pos 4) ∷ entry_of 2 3 (pos 5) ∷ []

-- the same entries in another order
abbrev pub columns : List Entry
columns = entry_of 2 3 (pos 5) ∷ entry_of 0 1 (pos 2) ∷ entry_of 0 3 (pos 3) ∷ entry_of 2 1 (pos 4) ∷ entry_of 0 0 (pos 1) ∷ []

abbrev pub none : ℤ
none = pos 9223372036854775807

-- ---- by the rows: runs of three and of two

abbrev pub by_row : List ℕ
by_row = ordered (value_column RowIndex columns ∷ value_column ColIndex columns ∷ []) 5

abbrev pub row_at : ℕ → ℤ
row_at = value_at_rank columns by_row RowIndex

pub record WorkedRows : Type 0 where
  pub places : by_row ≡ 4 ∷ 1 ∷ 2 ∷ 3 ∷ 0 ∷ []
  pub starts : map (start_at none row_at) (range_with_len 0 6) ≡ 0 ∷ 0 ∷ 0 ∷ 0 ∷ 3 ∷ 3 ∷ []
  pub most : map (most_at none row_at) (range_with_len 0 6) ≡ 0 ∷ 1 ∷ 2 ∷ 3 ∷ 3 ∷ 3 ∷ []
  pub lengths : map (length_at none row_at 5) (range_with_len 0 5) ≡ 3 ∷ 0 ∷ 0 ∷ 2 ∷ 0 ∷ []
  -- the column of `enumerate(i)`
  pub column : map (filled_at by_row (λ x. x - start_at none row_at (suc x)) 5) (range_with_len 0 5) ≡ 1 ∷ 1 ∷ 2 ∷ 0 ∷ 0 ∷ []

-- ---- by the columns: equal numbers of entries, and none

-- into two lanes, all loads below 6
abbrev pub lane : ℕ → ℕ
lane = lane_for 6 sample Cols 2

abbrev pub slot : ℕ → ℕ
slot = slot_for 6 sample Cols 2

pub record WorkedColumns : Type 0 where
  pub counts : weight_column sample sample_shape Cols ≡ negsuc 0 ∷ negsuc 1 ∷ pos 0 ∷ negsuc 1 ∷ []
  pub order : by_weight sample sample_shape Cols ≡ 1 ∷ 3 ∷ 0 ∷ 2 ∷ []
  pub ranks : map (filled_at (by_weight sample sample_shape Cols) (λ x. x) 4) (range_with_len 0 4) ≡ 2 ∷ 0 ∷ 3 ∷ 1 ∷ []
  pub lanes : map lane (range_with_len 0 4) ≡ 0 ∷ 1 ∷ 0 ∷ 0 ∷ []
  pub slots : map slot (range_with_len 0 4) ≡ 0 ∷ 0 ∷ 1 ∷ 2 ∷ []
  pub loads : loads_after sample Cols 2 4 ≡ 3 ∷ 2 ∷ []
  pub used : used_after sample Cols 2 4 ≡ 3 ∷ 1 ∷ []
  pub extents : map (extent_after 6 sample Cols 2) (range_with_len 0 5) ≡ 0 ∷ 1 ∷ 1 ∷ 2 ∷ 3 ∷ []
  pub table : map (rows_after 6 sample Cols 2 3 4) (range_with_len 0 6) ≡ 1 ∷ 3 ∷ 4 ∷ 2 ∷ 0 ∷ 0 ∷ []

-- ---- three parts: the first entries of the rows, the second ones, the rest

abbrev pub below : ℕ → Cond
below n = record { var = 0; less = true; bound = n }

abbrev pub split : Declaration
split = record { head_names = 1; head = Enumerate 0 RowIndex ∷ []; conds = below 1 ∷ below 2 ∷ []; parts = [] }

abbrev pub chosen : ℕ → List Entry
chosen k = filter (goes_to sample sample_shape split k) columns

pub record WorkedParts : Type 0 where
  pub first : chosen 0 ≡ entry_of 2 1 (pos 4) ∷ entry_of 0 0 (pos 1) ∷ []
  pub second : chosen 1 ≡ entry_of 2 3 (pos 5) ∷ entry_of 0 1 (pos 2) ∷ []
  pub rest : chosen 2 ≡ entry_of 0 3 (pos 3) ∷ []
