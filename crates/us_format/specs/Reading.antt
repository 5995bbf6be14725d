-- The buffers of a declaration by their places in the list, and whether their lengths fit.
use Rattle.std.specs.Prelude.{ℕ, suc, ◌+◌, ◌*◌, ◌%◌, min, ℤ, pos, int_le, List, [], ◌∷◌, ◌++◌, map, length, drop, Bool, true, false, not, ◌&&◌, nat_eq, nat_le, if◌then◌else◌, is_none, Option, Some}
use Rattle.std.specs.List.{count_by, list_any, position_or_len, sum_by, sum}
use Rattle.us_format.specs.declared.Kind.{Kind}
use Rattle.us_format.specs.declared.Kind.TheVariants.{Full, Compressed, Listed, Slot}
use Rattle.us_format.specs.Lists.{first_of, when, nth, cell, nat_of}
use Rattle.us_format.specs.Matrix.{Shape, indices}
use Rattle.us_format.specs.Declaration.{Query, Reorder, Schedule, Column, LevelColumn, ValueColumn, Part, Declaration, axis_of, has_extent, has_table, same_column}
use Rattle.us_format.specs.Kinds.{Level, levels_of}
use Rattle.us_format.specs.Packs.{Piece, PosOf, CellsOf, pieces, own_pieces, is_packed, in_pack, same_piece, column_from}

-- ---- places in the buffers of a part: extents, tables, own pieces, packs

-- how many extents and tables a part has
abbrev pub extent_count : Part → ℕ
extent_count p = count_by has_extent p.queries

abbrev pub table_count : Part → ℕ
table_count p = count_by has_table p.queries

-- the number of the buffer of a piece that has its own
abbrev pub own_place : Part → Piece → ℕ
own_place p x = extent_count p + table_count p + position_or_len (same_piece x) (own_pieces p)

-- the number of the buffer of the pack j
abbrev pub pack_place : Part → ℕ → ℕ
pack_place p j = extent_count p + table_count p + length (own_pieces p) + j

-- how many buffers a part has
abbrev pub buffer_count : Part → ℕ
buffer_count p = pack_place p (length p.packs)

-- how many buffers a declaration has
abbrev pub total_count : Declaration → ℕ
total_count d = sum_by buffer_count d.parts

-- the number of the first pack that has a column
abbrev pub pack_of : Part → Column → ℕ
pack_of p c = position_or_len (in_pack c) p.packs

-- the number of the buffer that keeps a piece
abbrev pub place_of : Part → Piece → ℕ
place_of p (PosOf k) = own_place p (PosOf k)
place_of p (CellsOf c) = if is_packed p (CellsOf c) then pack_place p (pack_of p c) else own_place p (CellsOf c)

-- ---- what stands there

-- the cells of a column that pack j keeps
abbrev pub packed_cells : Part → List (List ℤ) → ℕ → Column → List ℤ
packed_cells p bufs j c = let pack = nth p.packs j in column_from (length pack) (position_or_len (same_column c) pack) (nth bufs (pack_place p j))

-- the cells of a piece
abbrev pub cells_in : Part → List (List ℤ) → Piece → List ℤ
cells_in p bufs (PosOf k) = nth bufs (own_place p (PosOf k))
cells_in p bufs (CellsOf c) = if is_packed p (CellsOf c) then packed_cells p bufs (pack_of p c) c else nth bufs (own_place p (CellsOf c))

-- the extent of each query, 0 of one that has none; the next extent is the buffer k
abbrev pub extents_in : ℕ → List (List ℤ) → List Query → List ℕ
extents_in k bufs [] = []
extents_in k bufs (q ∷ qs) = if has_extent q then nat_of (cell (nth bufs k) 0) ∷ extents_in (suc k) bufs qs else 0 ∷ extents_in k bufs qs

-- the table of each query, empty of one that has none; the next table is the buffer k
abbrev pub tables_in : ℕ → List (List ℤ) → List Query → List (List ℤ)
tables_in k bufs [] = []
tables_in k bufs (q ∷ qs) = if has_table q then nth bufs k ∷ tables_in (suc k) bufs qs else [] ∷ tables_in k bufs qs

-- what the buffers of a part hold: the extent and the table of each query, and the cells of each piece
pub record Contents : Type 0 where
  pub extents : List ℕ
  pub tables : List (List ℤ)
  pub cells : List (List ℤ)

-- the contents of a part, read by the places
abbrev pub contents : Part → List (List ℤ) → Contents
contents p bufs = record { extents = extents_in 0 bufs p.queries; tables = tables_in (extent_count p) bufs p.queries; cells = map (cells_in p bufs) (pieces p) }

-- each part with its contents; the buffers of a part follow those of the parts before
abbrev pub all_contents : List Part → List (List ℤ) → List (Part × Contents)
all_contents [] bufs = []
all_contents (p ∷ ps) bufs = (p, contents p bufs) ∷ all_contents ps (drop (buffer_count p) bufs)

-- ---- lengths

-- the limit of a size
abbrev pub limit : ℕ
limit = 67108864

-- how many positions there are after the level k, where there are n before it: of a compressed or listed level as many as its coordinates
abbrev pub count_in : Part → List (List ℤ) → ℕ → Level → ℕ → ℕ
count_in p bufs k l n = by_kind l.kind
  where
    by_kind : Kind → ℕ
    by_kind Full = n * l.size
    by_kind Compressed = length (cells_in p bufs (CellsOf (LevelColumn k)))
    by_kind Listed = length (cells_in p bufs (CellsOf (LevelColumn k)))
    by_kind Slot = n

-- how many positions there are after each level, the levels being numbered from k on
abbrev pub counts_in : Part → List (List ℤ) → ℕ → List Level → ℕ → List ℕ
counts_in p bufs k [] n = []
counts_in p bufs k (l ∷ ls) n = count_in p bufs k l n ∷ counts_in p bufs (suc k) ls (count_in p bufs k l n)

-- a test of the walk: the number of the buffer that it names, and whether it passes
abbrev pub Test : Type 0
Test = ℕ × Bool

-- one cell, from 0 to the limit
abbrev pub is_extent : List ℤ → Bool
is_extent (z ∷ []) = int_le (pos 0) z && int_le z (pos limit)
is_extent _ = false

-- the tests of the extents, the next of which is the buffer k
abbrev pub extent_tests : ℕ → List (List ℤ) → List Query → List Test
extent_tests k bufs [] = []
extent_tests k bufs (q ∷ qs) = if has_extent q then (k, is_extent (nth bufs k)) ∷ extent_tests (suc k) bufs qs else extent_tests k bufs qs

-- whether a table is as long as its query of this extent wants
abbrev pub table_fits : Shape → Query → ℕ → List ℤ → Bool
table_fits s (Reorder v t) n cells = nat_eq (length cells) (indices (axis_of t) s)
table_fits s (Schedule l u t lanes) n cells = nat_eq (length cells) (lanes * n) && nat_le (indices (axis_of t) s) (length cells)
table_fits s _ n cells = true

-- the tests of the tables, the next of which is the buffer k
abbrev pub table_tests : Shape → ℕ → List (List ℤ) → List Query → List ℕ → List Test
table_tests s k bufs [] ns = []
table_tests s k bufs (q ∷ qs) [] = []
table_tests s k bufs (q ∷ qs) (n ∷ ns) = if has_table q then (k, table_fits s q n (nth bufs k)) ∷ table_tests s (suc k) bufs qs ns else table_tests s k bufs qs ns

-- whether a pack begins with a column
abbrev pub begins : Column → List Column → Bool
begins c [] = false
begins c (x ∷ xs) = same_column c x

-- at the first column of a pack: its length is a multiple of the number of its columns
abbrev pub pack_tests : Part → List (List ℤ) → Column → List Test
pack_tests p bufs c =
    if list_any (begins c) p.packs then (place_of p (CellsOf c), nat_eq (length (nth bufs (place_of p (CellsOf c))) % length (nth p.packs (pack_of p c))) 0) ∷ [] else []

-- a piece is n cells long
abbrev pub length_test : Part → List (List ℤ) → Piece → ℕ → Test
length_test p bufs x n = (place_of p x, nat_eq (length (cells_in p bufs x)) n)

-- the tests of the level k, before which there are n positions
abbrev pub level_tests : Part → List (List ℤ) → ℕ → Kind → ℕ → List Test
level_tests p bufs k Full n = []
level_tests p bufs k Compressed n = length_test p bufs (PosOf k) (n + 1) ∷ pack_tests p bufs (LevelColumn k)
level_tests p bufs k Listed n = length_test p bufs (PosOf k) (n + 1) ∷ pack_tests p bufs (LevelColumn k)
level_tests p bufs k Slot n = pack_tests p bufs (LevelColumn k) ++ length_test p bufs (CellsOf (LevelColumn k)) n ∷ []

-- the tests of the levels, numbered from k on, and of the values
abbrev pub walk : Part → List (List ℤ) → ℕ → List Level → ℕ → List Test
walk p bufs k [] n = pack_tests p bufs ValueColumn ++ length_test p bufs (CellsOf ValueColumn) n ∷ []
walk p bufs k (l ∷ ls) n = level_tests p bufs k l.kind n ++ walk p bufs (suc k) ls (count_in p bufs k l n)

-- the tests of a part in their order
abbrev pub part_tests : Shape → Part → List (List ℤ) → List Test
part_tests s p bufs =
    let extents = extents_in 0 bufs p.queries in
    extent_tests 0 bufs p.queries ++ (table_tests s (extent_count p) bufs p.queries extents ++ walk p bufs 0 (levels_of s extents p) 1)

-- the tests of all parts, the first of which has its first buffer at number k
abbrev pub all_tests : Shape → ℕ → List Part → List (List ℤ) → List Test
all_tests s k [] bufs = []
all_tests s k (p ∷ ps) bufs = map (λ t. (k + t.0, t.1)) (part_tests s p bufs) ++ all_tests s (k + buffer_count p) ps (drop (buffer_count p) bufs)

-- the buffer that the first failing test names; where the number of buffers is wrong, the lower of the two numbers
abbrev pub misfit : Shape → Declaration → List (List ℤ) → Option ℕ
misfit s d bufs =
    if nat_eq (length bufs) (total_count d) then first_of (λ t. when (not t.1) t.0) (all_tests s 0 d.parts bufs) else Some (min (length bufs) (total_count d))

-- whether number and lengths of the buffers fit
abbrev pub fits : Shape → Declaration → List (List ℤ) → Bool
fits s d bufs = is_none (misfit s d bufs)

-- the positions after each level of a part
abbrev pub part_counts_in : Shape → Part → List (List ℤ) → List ℕ
part_counts_in s p bufs = counts_in p bufs 0 (levels_of s (extents_in 0 bufs p.queries) p) 1

-- the sum of the positions of all parts
abbrev pub all_counts_in : Shape → List Part → List (List ℤ) → ℕ
all_counts_in s [] bufs = 0
all_counts_in s (p ∷ ps) bufs = sum (part_counts_in s p bufs) + all_counts_in s ps (drop (buffer_count p) bufs)

-- the lengths of buffers and their numbers of positions, added up
abbrev pub size_in : Shape → Declaration → List (List ℤ) → ℕ
size_in s d bufs = sum_by length bufs + all_counts_in s d.parts bufs
