-- Where the buffers of a part are among the sources, and which dims tell lengths.
use Rattle.std.specs.Prelude.{◌≡◌, ℕ, suc, ◌+◌, ◌*◌, List, [], ◌∷◌, length, replicate, slice_index_or, nat_eq, if◌then◌else◌, Option, Some, None}
use Rattle.std.specs.List.{position_or_len}
use Rattle.us_expr.specs.declared.ranges.Range.{Range}
use Rattle.us_expr.specs.Tree.{Tree, RowIndex, ColIndex, Number, Variable, Sum, Difference, Quotient, Remainder}
use Rattle.us_format.specs.declared.Kind.{Kind}
use Rattle.us_format.specs.declared.Kind.TheVariants as kinds
use Rattle.us_format.specs.Lists.{nth}
use Rattle.us_format.specs.Matrix.{Shape}
use Rattle.us_format.specs.Declaration.{Query, SumOf, Enumerate, Reorder, Schedule, Column, LevelColumn, ValueColumn, Part, same_column, has_extent, has_table}
use Rattle.us_format.specs.Coordinates.{level_range, span}
use Rattle.us_format.specs.Kinds.{kind}
use Rattle.us_format.specs.Packs.{PosOf, CellsOf, is_packed}
use Rattle.us_format.specs.Reading.{extent_count, own_place, pack_place, pack_of}
use Rattle.us_code.specs.declared.program.Dim.{Dim}
use Rattle.us_code.specs.declared.program.Dim.TheVariants as dim
use Rattle.us_gen_recover.specs.declared.places.Table.{Table}
use Rattle.us_gen_walk.specs.declared.places.Column.{Column as Place}
use Rattle.us_gen_walk.specs.declared.places.Column.TheVariants as cells
use Rattle.us_gen_walk.specs.declared.places.Loop.{Loop}
use Rattle.us_gen_walk.specs.declared.places.Loop.TheVariants as over
use Rattle.us_gen_walk.specs.declared.places.Slot.{Slot}
use Rattle.us_gen_walk.specs.declared.places.Places.{Places}
use Rattle.us_gen_places.specs.declared.start.PartStart.{PartStart}
use Rattle.us_gen_places.specs.declared.levels.LevelPlace.{LevelPlace}
use Rattle.us_gen_places.specs.declared.levels.LevelPlace.TheVariants.{InFront, Behind}

-- ---- dims

-- the dim of the extent of query q
abbrev pub extent_name : PartStart → ℕ → ℕ
extent_name a q = a.dim + q

-- of level k with nodes: how many nodes there are, and one more
abbrev pub nodes_name : PartStart → ℕ → ℕ
nodes_name a k = a.dim + 16 + 2 * k

abbrev pub more_name : PartStart → ℕ → ℕ
more_name a k = a.dim + 17 + 2 * k

-- ---- columns

-- in a pack, or in a source of the column's own
abbrev pub place_of : PartStart → Part → Column → Place
place_of a p c =
    if is_packed p (CellsOf c)
    then cells.Packed (a.source + pack_place p (pack_of p c)) (length (nth p.packs (pack_of p c))) (position_or_len (same_column c) (nth p.packs (pack_of p c)))
    else cells.Own (a.source + own_place p (CellsOf c))

-- how many nodes a level has: where its coordinates are in a pack, a dim of its own
abbrev pub nodes_of : PartStart → Part → ℕ → Dim
nodes_of a p k = if is_packed p (CellsOf (LevelColumn k)) then dim.Name (nodes_name a k) else dim.Len (a.source + own_place p (CellsOf (LevelColumn k)))

-- ---- sizes

-- the query that gives the variable v the numbers below its extent, if there is one: this one, numbered k, or a later one
abbrev pub by_query : Query → ℕ → ℕ → Option ℕ → Option ℕ
by_query (SumOf w e) v k later = later
by_query (Enumerate w e) v k later = if nat_eq w v then Some k else later
by_query (Reorder w t) v k later = if nat_eq w v then None else later
by_query (Schedule l u t lanes) v k later = if nat_eq l v then None else (if nat_eq u v then Some k else later)

abbrev pub counting_query : ℕ → List Query → ℕ → Option ℕ
counting_query k [] v = None
counting_query k (q ∷ qs) v = by_query q v k (counting_query (suc k) qs v)

-- of an expression that is such a variable
abbrev pub counted_by : List Query → Tree → Option ℕ
counted_by qs (Variable v) = counting_query 0 qs v
counted_by qs RowIndex = None
counted_by qs ColIndex = None
counted_by qs (Number c) = None
counted_by qs (Sum a b) = None
counted_by qs (Difference a b) = None
counted_by qs (Quotient a k) = None
counted_by qs (Remainder a k) = None

-- the range of an expression, where no query has an extent
abbrev pub range_without : Shape → Part → Tree → Range
range_without s p e = level_range s (replicate 16 0) p e

-- how many coordinates a level has: the extent of its query, or a number
abbrev pub size_by : PartStart → Option ℕ → Range → Dim
size_by a None r = dim.Number (span r)
size_by a (Some q) r = dim.Name (extent_name a q)

-- ---- levels

abbrev pub loop_of : PartStart → Part → ℕ → Range → Loop
loop_of a p k r =
    over.Nodes (a.source + own_place p (PosOf k)) (dim.Name (more_name a k)) (nodes_of a p k) (place_of a p (LevelColumn k)) r.lo

-- the level k of this range, whose expression an extent bounds, if any, by its kind
abbrev pub place_by : PartStart → Part → ℕ → Option ℕ → Range → Kind → LevelPlace
place_by a p k o r kinds.Full = InFront (over.Full (size_by a o r) r.lo)
place_by a p k o r kinds.Compressed = InFront (loop_of a p k r)
place_by a p k o r kinds.Listed = InFront (loop_of a p k r)
place_by a p k o r kinds.Slot = Behind record { crd = place_of a p (LevelColumn k); low = r.lo }

-- the level k, whose expression is e
abbrev pub level_place : PartStart → Shape → Part → ℕ → Tree → Kind → LevelPlace
level_place a s p k e kd = place_by a p k (counted_by p.queries e) (range_without s p e) kd

abbrev pub place_at : PartStart → Shape → Part → ℕ → LevelPlace
place_at a s p k = level_place a s p k (slice_index_or p.levels k RowIndex) (kind p k)

abbrev pub with_loop : LevelPlace → List Loop → List Loop
with_loop (InFront l) ls = l ∷ ls
with_loop (Behind x) ls = ls

abbrev pub with_slot : LevelPlace → List Slot → List Slot
with_slot (InFront l) xs = xs
with_slot (Behind x) xs = x ∷ xs

-- those of the levels es that aren't slot levels, and the slot levels; the levels are numbered from k on
abbrev pub loops_from : PartStart → Shape → Part → ℕ → List Tree → List Loop
loops_from a s p k [] = []
loops_from a s p k (e ∷ es) = with_loop (level_place a s p k e (kind p k)) (loops_from a s p (suc k) es)

abbrev pub slots_from : PartStart → Shape → Part → ℕ → List Tree → List Slot
slots_from a s p k [] = []
slots_from a s p k (e ∷ es) = with_slot (level_place a s p k e (kind p k)) (slots_from a s p (suc k) es)

-- ---- tables

-- of the query q: the next table is the source t of the part
abbrev pub table_at : PartStart → ℕ → ℕ → Query → Table
table_at a t q x = record {
  source = if has_table x then a.source + t else a.source;
  extent = if has_extent x then dim.Name (extent_name a q) else dim.Number 0;
}

abbrev pub tables_from : PartStart → ℕ → ℕ → List Query → List Table
tables_from a t q [] = []
tables_from a t q (x ∷ xs) = table_at a t q x ∷ tables_from a (if has_table x then suc t else t) (suc q) xs

-- ---- a part

-- the places of a part for a shape
pub record ArePlacesOf (a : PartStart) (s : Shape) (p : Part) (w : Places) : Type 0 where
  pub loops : w.loops.items ≡ loops_from a s p 0 p.levels
  pub values : w.values ≡ place_of a p ValueColumn
  pub slots : w.slots.items ≡ slots_from a s p 0 p.levels
  pub tables : w.tables.items ≡ tables_from a (extent_count p) 0 p.queries
