-- A part of a format as its loops take it: levels with the dims of their sizes, packs as runs of columns, and the keys of an order.
use Rattle.std.specs.Prelude.{◌≡◌, ℕ, suc, ◌+◌, Bool, true, false, List, [], ◌∷◌, map, length, if◌then◌else◌, ℤ, Option, Some, None}
use Rattle.us_expr.specs.declared.ranges.Range.{Range}
use Rattle.us_expr.specs.Tree.{Tree, RowIndex, ColIndex, Number, Variable, Sum, Difference, Quotient, Remainder}
use Rattle.us_format.specs.Matrix.{Shape}
use Rattle.us_format.specs.Declaration.{Query, Column, LevelColumn, ValueColumn, Part, has_extent}
use Rattle.us_format.specs.Coordinates.{span}
use Rattle.us_format.specs.Kinds.{kind}
use Rattle.us_code.specs.declared.program.Dim.{Dim}
use Rattle.us_code.specs.declared.program.Dim.TheVariants as dim
use Rattle.us_code.specs.declared.pieces.Columns.{Columns}
use Rattle.us_gen_places.specs.Places.{by_query, range_without}
use Rattle.us_gen_building.specs.declared.part.PartLevel.{PartLevel}
use Rattle.us_gen_building.specs.Keys.{order_keys}
use Rattle.us_gen_coordinates.specs.Phase.{columns_for}
use Rattle.us_gen_pack_building.specs.declared.part.PackRun.{PackRun}
use Rattle.us_gen_pack_building.specs.declared.part.PackedLoops.{PackedLoops}

-- ---- sizes

-- the dim behind a query, where its extent has dim d, if it has one
abbrev pub next_dim : Query → ℕ → ℕ
next_dim q d = if has_extent q then d + 1 else d

-- the dim of the extent that bounds a variable, where the extents of the queries have the dims from d on
abbrev pub extent_dim : ℕ → List Query → ℕ → Option ℕ
extent_dim d [] v = None
extent_dim d (q ∷ qs) v = by_query q v d (extent_dim (next_dim q d) qs v)

-- of an expression that is such a variable
abbrev pub bound_of : ℕ → List Query → Tree → Option ℕ
bound_of d qs (Variable v) = extent_dim d qs v
bound_of d qs RowIndex = None
bound_of d qs ColIndex = None
bound_of d qs (Number c) = None
bound_of d qs (Sum a b) = None
bound_of d qs (Difference a b) = None
bound_of d qs (Quotient a k) = None
bound_of d qs (Remainder a k) = None

-- how many coordinates a level has: a dim, or as many as its range has numbers
abbrev pub size_by : Option ℕ → Range → Dim
size_by None r = dim.Number (span r)
size_by (Some d) r = dim.Name d

-- ---- levels

-- the level k, whose expression is e and whose coordinates are in buffer c
abbrev pub level_by : Shape → Part → ℕ → ℕ → Tree → ℕ → PartLevel
level_by s p d k e c = record { kind = kind p k; size = size_by (bound_of d p.queries e) (range_without s p e); column = c }

-- the levels es, numbered from k on, and their columns
abbrev pub levels_from : Shape → Part → ℕ → ℕ → List Tree → List ℕ → List PartLevel
levels_from s p d k [] cs = []
levels_from s p d k (e ∷ es) [] = []
levels_from s p d k (e ∷ es) (c ∷ cs) = level_by s p d k e c ∷ levels_from s p d (suc k) es cs

-- the low ends of the levels, which no extent changes
abbrev pub lows_of : Shape → Part → List ℤ
lows_of s p = map (λ e. (range_without s p e).lo) p.levels

-- the columns of coordinates, whose new buffers have numbers from n on
abbrev pub level_columns : Shape → Part → Columns → ℕ → List ℕ
level_columns s p cs n = columns_for cs p.levels (lows_of s p) n

-- ---- packs

-- the number of a column, where there are n levels
abbrev pub column_number : ℕ → Column → ℕ
column_number n (LevelColumn k) = k
column_number n ValueColumn = n

-- the columns from the pack's first on, as many as it has
abbrev pub run_of : ℕ → List Column → PackRun
run_of n [] = record { first = 0; end = 0 }
run_of n (c ∷ cs) = record { first = column_number n c; end = column_number n c + length (c ∷ cs) }

-- ---- a part

-- by which coordinates the entries are put in order, if they are
abbrev pub keys_of : Bool → List PartLevel → Option ℕ
keys_of true ls = order_keys ls
keys_of false ls = None

-- where its extents have the dims from n on, and the new columns of coordinates the numbers from c on
abbrev pub part_levels : Shape → Part → Columns → ℕ → ℕ → List PartLevel
part_levels s p cs n c = levels_from s p n 0 p.levels (level_columns s p cs c)

pub record AreLoops (sorts : Bool) (s : Shape) (p : Part) (cs : Columns) (n c : ℕ) (x : PackedLoops) : Type 0 where
  pub count : x.part.count ≡ cs.count
  pub levels : x.part.levels.items ≡ part_levels s p cs n c
  pub values : x.part.values ≡ cs.v
  pub keys : x.part.keys ≡ keys_of sorts (part_levels s p cs n c)
  pub packs : x.packs.items ≡ map (run_of (length p.levels)) p.packs
