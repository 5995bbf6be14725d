-- The cells of the extents and tables of queries.
use Rattle.std.specs.Prelude.{ℕ, ◌+◌, ◌*◌, ℤ, pos, List, [], ◌∷◌, Bool, false, nat_lt, if◌then◌else◌}
use Rattle.us_format.specs.Declaration.{Query, SumOf, Enumerate, Reorder, Schedule, axis_of, has_extent, has_table}
use Rattle.us_format.specs.Matrix.{Shape, indices}
use Rattle.us_format.specs.Reading.{limit}

-- whether a query orders or shares out an axis of more indices than the limit
abbrev pub has_long_axis : Shape → Query → Bool
has_long_axis s (Reorder v t) = nat_lt limit (indices (axis_of t) s)
has_long_axis s (Schedule l u t n) = nat_lt limit (indices (axis_of t) s)
has_long_axis s _ = false

-- how many cells the extent and the table of a query have, where its extent is n
abbrev pub query_cells : Shape → Query → ℕ → ℕ
query_cells s (SumOf v e) n = 0
query_cells s (Enumerate v e) n = 1
query_cells s (Reorder v t) n = indices (axis_of t) s
query_cells s (Schedule l u t lanes) n = 1 + lanes * n

-- of queries with these extents
abbrev pub queries_cells : Shape → List Query → List ℕ → ℕ
queries_cells s [] ns = 0
queries_cells s (q ∷ qs) [] = 0
queries_cells s (q ∷ qs) (n ∷ ns) = query_cells s q n + queries_cells s qs ns

-- a list of one cell for each query that has an extent
abbrev pub extent_lists : List Query → List ℕ → List (List ℤ)
extent_lists [] ns = []
extent_lists (q ∷ qs) [] = []
extent_lists (q ∷ qs) (n ∷ ns) = if has_extent q then (pos n ∷ []) ∷ extent_lists qs ns else extent_lists qs ns

-- the tables of those queries that have one
abbrev pub table_lists : List Query → List (List ℤ) → List (List ℤ)
table_lists [] ts = []
table_lists (q ∷ qs) [] = []
table_lists (q ∷ qs) (t ∷ ts) = if has_table q then t ∷ table_lists qs ts else table_lists qs ts
