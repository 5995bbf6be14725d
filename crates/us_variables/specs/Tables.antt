-- The tables of queries.
use Rattle.std.specs.Prelude.{◌≡◌, ℕ, ◌*◌, ◌<◌, ℤ, pos, List, [], map, length, slice_index_or}
use Rattle.std.specs.List.{range_with_len}
use Rattle.us_query.specs.Lanes.{cell_in, extent_in}
use Rattle.us_variables.specs.declared.tables.Table.{Table}
use Rattle.us_variables.specs.declared.tables.Table.TheVariants.{Absent, Order, Scheduled}

-- the cells of a table
abbrev pub cells_of : Table → List ℤ
cells_of Absent = []
cells_of (Order numbers) = map pos numbers.items
cells_of (Scheduled t) = map (λ x. pos (cell_in t.lanes x)) (range_with_len 0 (length t.lanes * extent_in t.lanes))

-- the numbers at the first k places of an order have their places, as far as places can be told
pub record IsInverse (order : List ℕ) (k : ℕ) (places : List ℕ) : Type 0 where
  pub long : length places ≡ length order
  pub back : (f : ℕ → ℕ) → ((x : ℕ) → x < length order → f (slice_index_or order x 0) ≡ x) → (x : ℕ) → x < k → slice_index_or places (slice_index_or order x 0) 0 ≡ x
