-- Where the pieces of a part stand among its buffers, and what is read by these places.
use Rattle.std.specs.Prelude.{◌≡◌, ℕ, suc, ◌+◌, ◌*◌, ◌%◌, ◌<◌, ◌^◌, ℤ, List, [], ◌∷◌, ◌++◌, length, drop, false, not, nat_eq, if◌then◌else◌, map, pos, Option, Some, None}
use Rattle.std.specs.List.{list_any, position_or_len}
use Rattle.us_expr.specs.Tree.{Tree}
use Rattle.us_format.specs.declared.Kind.{Kind}
use Rattle.us_format.specs.declared.Kind.TheVariants.{Full, Compressed, Listed, Slot}
use Rattle.us_format.specs.Lists.{then_do, or_else, first_of, when, nth}
use Rattle.us_format.specs.Matrix.{Shape}
use Rattle.us_format.specs.Declaration.{Column, LevelColumn, ValueColumn, Part, same_column}
use Rattle.us_format.specs.Coordinates.{level_range, span}
use Rattle.us_format.specs.Kinds.{kind, levels_of}
use Rattle.us_format.specs.Packs.{PosOf, CellsOf, is_packed, column_from}
use Rattle.us_format.specs.Climb.{up}
use Rattle.us_format.specs.Reading.{own_place, pack_place, pack_of, begins, Test, walk, part_tests, extent_count, table_tests}
use Rattle.us_climb.specs.declared.layout.ColumnPlace.{ColumnPlace}
use Rattle.us_climb.specs.declared.layout.LevelLayout.{LevelLayout}
use Rattle.us_climb.specs.declared.layout.Layout.{Layout}

-- ---- places

-- where a column of a part stands, whose first buffer has this number
abbrev pub place_in : ℕ → Part → Column → ColumnPlace
place_in first p c =
    if is_packed p (CellsOf c) then record {
      buffer = first + pack_place p (pack_of p c);
      column = position_or_len (same_column c) (nth p.packs (pack_of p c));
      columns = length (nth p.packs (pack_of p c));
      begins = list_any (begins c) p.packs;
    } else record {
      buffer = first + own_place p (CellsOf c);
      column = 0;
      columns = 1;
      begins = list_any (begins c) p.packs;
    }

-- the place of no column
abbrev pub nowhere : ColumnPlace
nowhere = record { buffer = 0; column = 0; columns = 1; begins = false }

-- the level k of a part, of this kind and size
abbrev pub level_layout : ℕ → Part → ℕ → ℕ → Kind → LevelLayout
level_layout first p k size Full = record { kind = Full; size = size; starts = 0; cells = nowhere }
level_layout first p k size Compressed = record { kind = Compressed; size = size; starts = first + own_place p (PosOf k); cells = place_in first p (LevelColumn k) }
level_layout first p k size Listed = record { kind = Listed; size = size; starts = first + own_place p (PosOf k); cells = place_in first p (LevelColumn k) }
level_layout first p k size Slot = record { kind = Slot; size = size; starts = 0; cells = place_in first p (LevelColumn k) }

-- the levels whose expressions are es, numbered from k on
abbrev pub layout_from : ℕ → Shape → List ℕ → Part → ℕ → List Tree → List LevelLayout
layout_from first s extents p k [] = []
layout_from first s extents p k (e ∷ es) = level_layout first p k (span (level_range s extents p e)) (kind p k) ∷ layout_from first s extents p (suc k) es

-- the column is one of those of the buffer
abbrev pub IsInside : ColumnPlace → Type 0
IsInside place = place.column < place.columns

-- each size fits a signed number, and each column is one of its buffer
abbrev pub AreSound : List LevelLayout → Type 0
AreSound [] = Unit {0}
AreSound (l ∷ ls) = (l.size < 2 ^ 63) × (IsInside l.cells) × AreSound ls

-- the places of a part, whose first buffer has this number and whose queries have these extents
pub record IsLayout (first : ℕ) (s : Shape) (extents : List ℕ) (p : Part) (l : Layout) : Type 0 where
  pub levels : l.levels.items ≡ layout_from first s extents p 0 p.levels
  pub values : l.values ≡ place_in first p ValueColumn
  pub sound : AreSound l.levels.items
  pub inside : IsInside l.values

-- ---- what stands there

-- the cells of a column
abbrev pub cells_at : ColumnPlace → List (List ℤ) → List ℤ
cells_at place bufs = column_from place.columns place.column (nth bufs place.buffer)

-- the lists of a level, in their order
abbrev pub held_at : LevelLayout → List (List ℤ) → List (List ℤ)
held_at l bufs = by_kind l.kind
  where
    by_kind : Kind → List (List ℤ)
    by_kind Full = []
    by_kind Compressed = nth bufs l.starts ∷ cells_at l.cells bufs ∷ []
    by_kind Listed = nth bufs l.starts ∷ cells_at l.cells bufs ∷ []
    by_kind Slot = cells_at l.cells bufs ∷ []

-- ---- lengths

-- how many positions there are after a level, where there are n before it
abbrev pub count_by : LevelLayout → List (List ℤ) → ℕ → ℕ
count_by l bufs n = by_kind l.kind
  where
    by_kind : Kind → ℕ
    by_kind Full = n * l.size
    by_kind Compressed = length (cells_at l.cells bufs)
    by_kind Listed = length (cells_at l.cells bufs)
    by_kind Slot = n

-- and after each of some levels
abbrev pub counts_by : List LevelLayout → List (List ℤ) → ℕ → List ℕ
counts_by [] bufs n = []
counts_by (l ∷ ls) bufs n = count_by l bufs n ∷ counts_by ls bufs (count_by l bufs n)

-- at the first column of a pack: its length is a multiple of the number of its columns
abbrev pub column_tests : ColumnPlace → List (List ℤ) → List Test
column_tests place bufs = if place.begins then (place.buffer, nat_eq (length (nth bufs place.buffer) % place.columns) 0) ∷ [] else []

-- a column is n cells long
abbrev pub column_length : ColumnPlace → List (List ℤ) → ℕ → Test
column_length place bufs n = (place.buffer, nat_eq (length (cells_at place bufs)) n)

-- the starts of n ranges are n + 1 cells
abbrev pub starts_length : ℕ → List (List ℤ) → ℕ → Test
starts_length k bufs n = (k, nat_eq (length (nth bufs k)) (n + 1))

-- the tests of a level, before which there are n positions
abbrev pub tests_by : LevelLayout → List (List ℤ) → ℕ → List Test
tests_by l bufs n = by_kind l.kind
  where
    by_kind : Kind → List Test
    by_kind Full = []
    by_kind Compressed = starts_length l.starts bufs n ∷ column_tests l.cells bufs
    by_kind Listed = starts_length l.starts bufs n ∷ column_tests l.cells bufs
    by_kind Slot = column_tests l.cells bufs ++ column_length l.cells bufs n ∷ []

-- the tests of the levels and of the values
abbrev pub walk_by : List LevelLayout → ColumnPlace → List (List ℤ) → ℕ → List Test
walk_by [] values bufs n = column_tests values bufs ++ column_length values bufs n ∷ []
walk_by (l ∷ ls) values bufs n = tests_by l bufs n ++ walk_by ls values bufs (count_by l bufs n)

-- a test of a part, whose first buffer has this number
abbrev pub moved : ℕ → Test → Test
moved first t = (first + t.0, t.1)

-- the buffer that the first failing test names
abbrev pub first_failing : List Test → Option ℕ
first_failing tests = first_of (λ t. when (not t.1) t.0) tests

-- the buffer that the first failing test of the levels and the values of a part names, the first of whose buffers has the number f
abbrev pub levels_failing : Shape → ℕ → List (List ℤ) → Part → List ℕ → Option ℕ
levels_failing s f bufs p extents = first_failing (map (moved f) (walk p (drop f bufs) 0 (levels_of s extents p) 1))

-- the same for the tables, and behind them the levels and the values
abbrev pub stored_failing : Shape → ℕ → List (List ℤ) → Part → List ℕ → Option ℕ
stored_failing s f bufs p extents = or_else (first_failing (table_tests s (f + extent_count p) bufs p.queries extents)) (levels_failing s f bufs p extents)

-- and for the whole part
abbrev pub part_failing : Shape → ℕ → List (List ℤ) → Part → Option ℕ
part_failing s f bufs p = first_failing (map (moved f) (part_tests s p (drop f bufs)))

-- ---- the climb

-- one level up
abbrev pub up_by : LevelLayout → List (List ℤ) → ℕ → Option (ℕ × ℕ)
up_by l bufs x = up l.kind l.size (held_at l bufs) x

-- from the position x after all levels up
abbrev pub climb_by : List LevelLayout → List (List ℤ) → ℕ → Option (ℕ × List ℕ)
climb_by [] bufs x = Some (x, [])
climb_by (l ∷ ls) bufs x = then_do (climb_by ls bufs x) (λ (y, cs). then_do (up_by l bufs y) (λ (q, c). Some (q, c ∷ cs)))

-- the position above and the coordinates that were written are those of the climb
abbrev pub IsClimbed : Option ℕ → List ℤ → Option (ℕ × List ℕ) → Type 0
IsClimbed above coordinates None = above ≡ None
IsClimbed above coordinates (Some up) = (above ≡ Some up.0) × (coordinates ≡ map pos up.1)
