-- The ranges of the variables of a part, query by query.
use Rattle.std.specs.Prelude.{ℕ, List, map, nat_eq, if◌then◌else◌, Option, Some, None}
use Rattle.std.specs.List.{range_with_len}
use Rattle.us_expr.specs.Range.{index_range}
use Rattle.us_expr.specs.declared.queries.Query.{Query as QueryCode}
use Rattle.us_expr.specs.declared.ranges.Range.{Range}
use Rattle.us_format.specs.Coordinates.{variable_range}
use Rattle.us_format.specs.Declaration.{Query, SumOf, Enumerate, Reorder, Schedule, axis_of, query_of}
use Rattle.us_format.specs.Matrix.{Shape, indices}
use Rattle.us_variables.specs.declared.variables.Variables.{Variables}

-- the range that a query with this extent gives the variable v, if it gives one
abbrev pub range_by : Shape → ℕ → Query → ℕ → Option Range
range_by s n (SumOf w e) v = None
range_by s n (Enumerate w e) v = if nat_eq w v then Some (index_range n) else None
range_by s n (Reorder w t) v = if nat_eq w v then Some (index_range (indices (axis_of t) s)) else None
range_by s n (Schedule l u t lanes) v = if nat_eq l v then Some (index_range lanes) else (if nat_eq u v then Some (index_range n) else None)

-- the ranges of all variables that these queries count
abbrev pub ranges_in : Shape → List QueryCode → Variables → List Range
ranges_in s qs t = map (variable_range s t.extents.items (map query_of qs)) (range_with_len 0 t.names)
