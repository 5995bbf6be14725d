-- The ranges of variables and levels, and the coordinates of an entry.
use Rattle.std.specs.Prelude.{ℕ, ℤ, pos, ◌+ℤ◌, ◌-ℤ◌, List, [], ◌∷◌, map, nat_eq, if◌then◌else◌}
use Rattle.std.specs.List.{range_with_len}
use Rattle.us_expr.specs.declared.ranges.Range.{Range}
use Rattle.us_expr.specs.Tree.{Tree}
use Rattle.us_expr.specs.Value.{value}
use Rattle.us_expr.specs.Range.{range, index_range}
use Rattle.us_format.specs.Lists.{nat_of}
use Rattle.us_format.specs.Matrix.{Entry, Shape, indices}
use Rattle.us_format.specs.Declaration.{Query, SumOf, Enumerate, Reorder, Schedule, Part, axis_of}
use Rattle.us_format.specs.Queries.{variables_at, extents_of}

-- the range of the variable v, where the queries have these extents
abbrev pub variable_range : Shape → List ℕ → List Query → ℕ → Range
variable_range s extents [] v = index_range 1
variable_range s [] (q ∷ qs) v = index_range 1
variable_range s (n ∷ extents) (SumOf w e ∷ qs) v = variable_range s extents qs v
variable_range s (n ∷ extents) (Enumerate w e ∷ qs) v = if nat_eq w v then index_range n else variable_range s extents qs v
variable_range s (n ∷ extents) (Reorder w t ∷ qs) v = if nat_eq w v then index_range (indices (axis_of t) s) else variable_range s extents qs v
variable_range s (n ∷ extents) (Schedule l u t lanes ∷ qs) v =
    if nat_eq l v then index_range lanes else (if nat_eq u v then index_range n else variable_range s extents qs v)

-- the ranges of all variables of a part
abbrev pub variable_ranges : Shape → List ℕ → Part → List Range
variable_ranges s extents p = map (variable_range s extents p.queries) (range_with_len 0 p.names)

-- how many numbers a range has
abbrev pub span : Range → ℕ
span r = nat_of ((r.hi +ℤ pos 1) -ℤ r.lo)

-- the range of an expression of a part
abbrev pub level_range : Shape → List ℕ → Part → Tree → Range
level_range s extents p e = range s.rows s.cols (variable_ranges s extents p) e

-- the value of an expression of a part at an entry
abbrev pub value_at : List Entry → Shape → Part → Entry → Tree → ℤ
value_at m s p x e = value (pos x.i) (pos x.j) (variables_at m s p x) e

-- the coordinate of an entry at a level: the value less the low end of the range
abbrev pub coordinate : List Entry → Shape → Part → Entry → Tree → ℕ
coordinate m s p x e = nat_of (value_at m s p x e -ℤ (level_range s (extents_of m s p) p e).lo)

-- the coordinates of an entry at all levels of a part
abbrev pub coordinates : List Entry → Shape → Part → Entry → List ℕ
coordinates m s p x = map (coordinate m s p x) p.levels
