-- The kind and the size of each level of a part.
use Rattle.std.specs.Prelude.{ℕ, zero, suc, List, [], ◌∷◌, Bool, false, not, ◌&&◌, ◌||◌, if◌then◌else◌}
use Rattle.us_expr.specs.Tree.{Tree, RowIndex, ColIndex, Variable}
use Rattle.us_format.specs.declared.Kind.{Kind}
use Rattle.us_format.specs.declared.Kind.TheVariants.{Full, Compressed, Listed, Slot}
use Rattle.us_format.specs.Lists.{among}
use Rattle.us_format.specs.Matrix.{Shape}
use Rattle.us_format.specs.Declaration.{Query, Enumerate, Part}
use Rattle.us_format.specs.Known.{is_known}
use Rattle.us_format.specs.Coordinates.{level_range, span}

-- whether a level is trimmed and not merged
abbrev pub is_loose : Part → ℕ → Bool
is_loose p k = among k p.trim && not (among k p.merge)

-- whether the level before is loose
abbrev pub before_loose : Part → ℕ → Bool
before_loose p zero = false
before_loose p (suc k) = is_loose p k

-- whether the first k levels make some enumerate variable and its argument known
abbrev pub knows_enumerate : Part → ℕ → List Query → Bool
knows_enumerate p k [] = false
knows_enumerate p k (Enumerate v e ∷ qs) = (is_known p.levels p.queries k (Variable v) && is_known p.levels p.queries k e) || knows_enumerate p k qs
knows_enumerate p k (_ ∷ qs) = knows_enumerate p k qs

-- whether the first k levels tell the entry
abbrev pub tells : Part → ℕ → Bool
tells p k = (is_known p.levels p.queries k RowIndex && is_known p.levels p.queries k ColIndex) || knows_enumerate p k p.queries

-- the kind of the level k
abbrev pub kind : Part → ℕ → Kind
kind p k = if among k p.trim then (if among k p.merge then Compressed else (if before_loose p k || tells p k then Slot else Listed)) else Full

-- a level of a part for one shape and extents: its kind and how many coordinates it has
pub record Level : Type 0 where
  pub kind : Kind
  pub size : ℕ

-- the levels whose expressions are es, numbered from k on
abbrev pub levels_from : Shape → List ℕ → Part → ℕ → List Tree → List Level
levels_from s extents p k [] = []
levels_from s extents p k (e ∷ es) = record { kind = kind p k; size = span (level_range s extents p e) } ∷ levels_from s extents p (suc k) es

-- the levels of a part
abbrev pub levels_of : Shape → List ℕ → Part → List Level
levels_of s extents p = levels_from s extents p 0 p.levels
