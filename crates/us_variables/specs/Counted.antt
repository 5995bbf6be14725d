-- What is counted for the queries of a part.
use Rattle.std.specs.Prelude.{◌≡◌, ℕ, ◌<◌, ◌≤◌, ℤ, pos, List, [], map, length, slice_index_or}
use Rattle.std.specs.List.{range_with_len}
use Rattle.us_expr.specs.Value.{IsIndex, IsValid}
use Rattle.us_format.specs.Matrix.{Entry, Shape, indices}
use Rattle.us_format.specs.Declaration.{Query, SumOf, Enumerate, Reorder, Schedule, axis_of}
use Rattle.us_format.specs.Queries.{extent_of, variable_at}
use Rattle.us_format.specs.Packs.{written}
use Rattle.us_format.specs.Buffers.{table_buffer}
use Rattle.us_variables.specs.declared.queries.Counted.{Counted}
use Rattle.us_variables.specs.declared.variables.Variables.{Variables}
use Rattle.us_variables.specs.Columns.{value_or}
use Rattle.us_variables.specs.Tables.{cells_of}

-- a query that can be counted in a matrix of a shape: an expression without variables, or an axis that is not too long
abbrev pub IsCountable : Shape → Query → Type 0
IsCountable s (SumOf v e) = IsValid [] e
IsCountable s (Enumerate v e) = IsValid [] e
IsCountable s (Reorder v e) = indices (axis_of e) s ≤ 67108864
IsCountable s (Schedule l u e n) = (indices (axis_of e) s ≤ 67108864) × (0 < n) × (n ≤ 64)

-- the extent and the table of a query
pub record IsCounted (m : List Entry) (s : Shape) (q : Query) (c : Counted) : Type 0 where
  pub extent : c.extent ≡ extent_of m s q
  pub table : cells_of c.table ≡ written (table_buffer m s q)

-- the value of a variable at an entry
abbrev pub value_in : Variables → ℕ → ℕ → ℤ
value_in t v k = value_or t.columns.items v k (pos 0)

-- the values of all variables at an entry
abbrev pub values_in : Variables → ℕ → List ℤ
values_in t k = map (λ v. value_in t v k) (range_with_len 0 t.names)

-- the tables of the queries
abbrev pub tables_in : Variables → List (List ℤ)
tables_in t = map cells_of t.tables.items

-- values, extents and tables are those of the queries of a part with n names on its entries, and each value is a number that an index may be
pub record AreVariables (m : List Entry) (s : Shape) (qs : List Query) (n : ℕ) (t : Variables) : Type 0 where
  pub names : t.names ≡ n
  pub extents : t.extents.items ≡ map (extent_of m s) qs
  pub tables : tables_in t ≡ map (λ q. written (table_buffer m s q)) qs
  pub indices : (v k : ℕ) → k < length m → IsIndex (value_in t v k)
  pub values : (v k : ℕ) (d : Entry) → k < length m → value_in t v k ≡ variable_at m s qs v (slice_index_or m k d)
