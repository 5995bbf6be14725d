-- Indices with their weights, and their order.
use Rattle.std.specs.Prelude.{◌≡◌, ◌<◌, ℕ, List, slice_index_or, Bool, ◌&&◌, ◌||◌, nat_eq, nat_lt}
use Rattle.us_expr.specs.declared.queries.Axis.{Axis}
use Rattle.us_format.specs.Matrix.{Entry, Shape, indices}
use Rattle.us_format.specs.Queries.{rank_of}
use Rattle.us_query.specs.declared.order.Weighted.{Weighted}

-- whether r comes before s: more entries, or as many and a lower number
abbrev pub goes_before : Weighted → Weighted → Bool
goes_before r s = nat_lt s.weight r.weight || (nat_eq s.weight r.weight && nat_lt r.index s.index)

-- the index a with its weight
abbrev pub ranked_at : List ℕ → ℕ → Weighted
ranked_at ws a = record { weight = slice_index_or ws a 0; index = a }

-- the number at each place is the index whose rank the place is
abbrev pub AreRanked : List Entry → Shape → Axis → List ℕ → Type 0
AreRanked m s axis ns = (x : ℕ) → x < indices axis s → (slice_index_or ns x 0 < indices axis s) × (rank_of m s axis (slice_index_or ns x 0) ≡ x)
