-- What is read by a layout is what the definitions read of a part, among whose buffers the first has the number f.
use Rattle.std.proofs.Common.{◌≡◌, ℕ, suc, ◌+◌, ◌/◌, ◌%◌, ◌<◌, List, [], ◌∷◌, ◌++◌, map, length, drop, Bool, true, false, eqb, ℤ, pos, refl, sym, ap, ap₂, subst, ◌∙◌, arith}
use Rattle.std.specs.Prelude.{Option, Some}
use Rattle.std.specs.List.{list_any, position_or_len}
use Rattle.us_expr.specs.Tree.{Tree}
use Rattle.us_format.specs.declared.Kind.{Kind}
use Rattle.us_format.specs.declared.Kind.TheVariants.{Full, Compressed, Listed, Slot}
use Rattle.us_format.specs.Lists.{nth, cell, then_do}
use Rattle.us_format.specs.Matrix.{Shape}
use Rattle.us_format.specs.Declaration.{Column, LevelColumn, ValueColumn, Part, same_column}
use Rattle.us_format.specs.Coordinates.{level_range, span}
use Rattle.us_format.specs.Kinds.{Level, kind, levels_from}
use Rattle.us_format.specs.Packs.{PosOf, CellsOf, level_pieces, pieces_from, is_packed, column_from}
use Rattle.us_format.specs.Climb.{climb, values, up}
use Rattle.us_format.specs.Reading.{own_place, pack_place, pack_of, place_of, cells_in, count_in, counts_in, begins, pack_tests, level_tests, length_test, walk, Test}
use Rattle.us_format.proofs.Fits.{begins-in}
use Rattle.std.proofs.lemmas.List.{ext_get_or, get_or-drop, map-append}
use Rattle.us_climb.proofs.ColumnCells.{length-column, cell-within}
use Rattle.us_climb.specs.declared.layout.ColumnPlace.{ColumnPlace}
use Rattle.us_climb.specs.Layout.{place_in, level_layout, layout_from, cells_at, count_by, counts_by, column_tests, column_length, tests_by, walk_by, climb_by, moved}

-- ---- cells

div-one : (n : ℕ) → n / 1 ≡ n
div-one n = omega arith

column-whole : (xs : List ℤ) → column_from 1 0 xs ≡ xs
column-whole xs =
    ext_get_or (pos 0) (column_from 1 0 xs) xs (length-column 1 0 xs ∙ div-one (length xs))
    (λ i l. cell-within 1 0 xs i (subst (λ n. i < n) (length-column 1 0 xs) l) ∙ ap (cell xs) (omega arith))

-- a buffer of the part
pub buffer-there : (f : ℕ) (bufs : List (List ℤ)) (k : ℕ) → nth bufs (f + k) ≡ nth (drop f bufs) k
buffer-there f bufs k = sym (get_or-drop f bufs k [])

pub cells-there : (f : ℕ) (p : Part) (bufs : List (List ℤ)) (c : Column) → cells_at (place_in f p c) bufs ≡ cells_in p (drop f bufs) (CellsOf c)
cells-there f p bufs c = go (is_packed p (CellsOf c)) refl
  where
    go : (b : Bool) → is_packed p (CellsOf c) ≡ b → cells_at (place_in f p c) bufs ≡ cells_in p (drop f bufs) (CellsOf c)
    go true h =
        rw h
        (ap (λ (xs : List ℤ). column_from (length (nth p.packs (pack_of p c))) (position_or_len (same_column c) (nth p.packs (pack_of p c))) xs)
        (buffer-there f bufs (pack_place p (pack_of p c))))
    go false h = rw h (column-whole (nth bufs (f + own_place p (CellsOf c))) ∙ buffer-there f bufs (own_place p (CellsOf c)))

-- ---- tests

-- a test of a buffer
abbrev test_by : ℕ → (List ℤ → Bool) → List ℤ → Test
test_by k test cells = (k, test cells)

pub tests-there : (f : ℕ) (p : Part) (bufs : List (List ℤ)) (c : Column) → column_tests (place_in f p c) bufs ≡ map (moved f) (pack_tests p (drop f bufs) c)
tests-there f p bufs c = go (is_packed p (CellsOf c)) refl (list_any (begins c) p.packs) refl
  where
    go : (b : Bool) → is_packed p (CellsOf c) ≡ b → (t : Bool) → list_any (begins c) p.packs ≡ t → column_tests (place_in f p c) bufs ≡ map (moved f) (pack_tests p (drop f bufs) c)
    go true h true e =
        rw (h, e)
        (ap (λ (xs : List ℤ). test_by (f + pack_place p (pack_of p c)) (λ ys. eqb (length ys % length (nth p.packs (pack_of p c))) 0) xs ∷ [])
        (buffer-there f bufs (pack_place p (pack_of p c))))
    go true h false e = rw (h, e) refl
    go false h true e = absurd (let q : is_packed p (CellsOf c) ≡ true = begins-in c p.packs e in cc)
    go false h false e = rw (h, e) refl

place-there : (f : ℕ) (p : Part) (c : Column) → (place_in f p c).buffer ≡ f + place_of p (CellsOf c)
place-there f p c = go (is_packed p (CellsOf c)) refl
  where
    go : (b : Bool) → is_packed p (CellsOf c) ≡ b → (place_in f p c).buffer ≡ f + place_of p (CellsOf c)
    go true h = rw h refl
    go false h = rw h refl

pub length-there : (f : ℕ) (p : Part) (bufs : List (List ℤ)) (c : Column) (n : ℕ) → column_length (place_in f p c) bufs n ≡ moved f (length_test p (drop f bufs) (CellsOf c) n)
length-there f p bufs c n =
    ap₂ (λ (k : ℕ) (cells : List ℤ). let t : Test = (k, eqb (length cells) n) in t) (place-there f p c) (cells-there f p bufs c)

module _ (f : ℕ) (s : Shape) (extents : List ℕ) (p : Part) (bufs : List (List ℤ)) where
  abbrev pub value_place : ColumnPlace
  value_place = place_in f p ValueColumn

  -- the buffers from the first of the part on
  abbrev pub held : List (List ℤ)
  held = drop f bufs

  abbrev pub one_level : Kind → ℕ → Level
  one_level kd size = record { kind = kd; size = size }

  pub count-there : (k size n : ℕ) (kd : Kind) → count_in p held k (one_level kd size) n ≡ count_by (level_layout f p k size kd) bufs n
  count-there k size n Full = refl
  count-there k size n Compressed = ap length (sym (cells-there f p bufs (LevelColumn k)))
  count-there k size n Listed = ap length (sym (cells-there f p bufs (LevelColumn k)))
  count-there k size n Slot = refl

  starts-there : (k n : ℕ) → moved f (length_test p held (PosOf k) (n + 1)) ≡ test_by (f + own_place p (PosOf k)) (λ xs. eqb (length xs) (n + 1)) (nth bufs (f + own_place p (PosOf k)))
  starts-there k n = ap (test_by (f + own_place p (PosOf k)) (λ xs. eqb (length xs) (n + 1))) (sym (buffer-there f bufs (own_place p (PosOf k))))

  -- the tests of a column of n cells
  column-there : (c : Column) (n : ℕ) → map (moved f) (pack_tests p held c ++ length_test p held (CellsOf c) n ∷ []) ≡ column_tests (place_in f p c) bufs ++ column_length (place_in f p c) bufs n ∷ []
  column-there c n =
      map-append (moved f) (pack_tests p held c) (length_test p held (CellsOf c) n ∷ [])
      ∙ ap₂ (λ (ts : List Test) (t : Test). ts ++ (t ∷ [])) (sym (tests-there f p bufs c)) (sym (length-there f p bufs c n))

  pub level-tests-there : (k size n : ℕ) (kd : Kind) → map (moved f) (level_tests p held k kd n) ≡ tests_by (level_layout f p k size kd) bufs n
  level-tests-there k size n Full = refl
  level-tests-there k size n Compressed = ap₂ (λ (t : Test) (ts : List Test). t ∷ ts) (starts-there k n) (sym (tests-there f p bufs (LevelColumn k)))
  level-tests-there k size n Listed = ap₂ (λ (t : Test) (ts : List Test). t ∷ ts) (starts-there k n) (sym (tests-there f p bufs (LevelColumn k)))
  level-tests-there k size n Slot = column-there (LevelColumn k) n

  pub walk-there : (k : ℕ) (es : List Tree) (n : ℕ) → map (moved f) (walk p held k (levels_from s extents p k es) n) ≡ walk_by (layout_from f s extents p k es) value_place bufs n
  walk-there k [] n = column-there ValueColumn n
  walk-there k (e ∷ es) n =
      map-append (moved f) (level_tests p held k (kind p k) n) (walk p held (suc k) (levels_from s extents p (suc k) es) (count_in p held k (one_level (kind p k) (span (level_range s extents p e))) n))
      ∙ ap₂ (λ (ts us : List Test). ts ++ us) (level-tests-there k (span (level_range s extents p e)) n (kind p k))
      (walk-there (suc k) es (count_in p held k (one_level (kind p k) (span (level_range s extents p e))) n)
      ∙ ap (walk_by (layout_from f s extents p (suc k) es) value_place bufs) (count-there k (span (level_range s extents p e)) n (kind p k)))

  pub counts-there : (k : ℕ) (es : List Tree) (n : ℕ) → counts_in p held k (levels_from s extents p k es) n ≡ counts_by (layout_from f s extents p k es) bufs n
  counts-there k [] n = refl
  counts-there k (e ∷ es) n =
      ap₂ (λ (c : ℕ) (cs : List ℕ). c ∷ cs) (count-there k (span (level_range s extents p e)) n (kind p k))
      (counts-there (suc k) es (count_in p held k (one_level (kind p k) (span (level_range s extents p e))) n)
      ∙ ap (counts_by (layout_from f s extents p (suc k) es) bufs) (count-there k (span (level_range s extents p e)) n (kind p k)))

  -- ---- the climb

  -- the cells of the pieces of the levels es and of the values
  abbrev pub Held : ℕ → List Tree → List (List ℤ)
  Held k es = map (cells_in p held) (pieces_from p k es)

  -- one level up from what the levels below give
  abbrev step : Kind → ℕ → List (List ℤ) → Option (ℕ × List ℕ) → Option (ℕ × List ℕ)
  step kd size lists r = then_do r (λ (y, cs). then_do (up kd size lists y) (λ (q, c). Some (q, c ∷ cs)))

  -- the lists of a level that has starts
  stored-there : (k : ℕ) → (let lists : List (List ℤ) = nth held (own_place p (PosOf k)) ∷ cells_in p held (CellsOf (LevelColumn k)) ∷ [] in lists)
      ≡ (let lists : List (List ℤ) = nth bufs (f + own_place p (PosOf k)) ∷ cells_at (place_in f p (LevelColumn k)) bufs ∷ [] in lists)
  stored-there k =
      ap₂ (λ (starts cells : List ℤ). let lists : List (List ℤ) = starts ∷ cells ∷ [] in lists) (sym (buffer-there f bufs (own_place p (PosOf k)))) (sym (cells-there f p bufs (LevelColumn k)))

  pub climb-there : (k : ℕ) (es : List Tree) (x : ℕ) → climb (levels_from s extents p k es) (Held k es) x ≡ climb_by (layout_from f s extents p k es) bufs x
  climb-there k [] x = refl
  climb-there k (e ∷ es) x = go (kind p k) (span (level_range s extents p e)) (climb-there (suc k) es x)
    where
      go : (kd : Kind) (size : ℕ) → climb (levels_from s extents p (suc k) es) (Held (suc k) es) x ≡ climb_by (layout_from f s extents p (suc k) es) bufs x
          → climb (one_level kd size ∷ levels_from s extents p (suc k) es) (map (cells_in p held) (level_pieces k kd ++ pieces_from p (suc k) es)) x
          ≡ climb_by (level_layout f p k size kd ∷ layout_from f s extents p (suc k) es) bufs x
      go Full size ih = ap (λ (r : Option (ℕ × List ℕ)). step Full size [] r) ih
      go Compressed size ih = ap₂ (λ (r : Option (ℕ × List ℕ)) (lists : List (List ℤ)). step Compressed size lists r) ih (stored-there k)
      go Listed size ih = ap₂ (λ (r : Option (ℕ × List ℕ)) (lists : List (List ℤ)). step Listed size lists r) ih (stored-there k)
      go Slot size ih = ap₂ (λ (r : Option (ℕ × List ℕ)) (cells : List ℤ). step Slot size (cells ∷ []) r) ih (sym (cells-there f p bufs (LevelColumn k)))

  pub values-there : (k : ℕ) (es : List Tree) → values (levels_from s extents p k es) (Held k es) ≡ cells_at value_place bufs
  values-there k [] = sym (cells-there f p bufs ValueColumn)
  values-there k (e ∷ es) = go (kind p k) (span (level_range s extents p e)) (values-there (suc k) es)
    where
      go : (kd : Kind) (size : ℕ) → values (levels_from s extents p (suc k) es) (Held (suc k) es) ≡ cells_at value_place bufs
          → values (one_level kd size ∷ levels_from s extents p (suc k) es) (map (cells_in p held) (level_pieces k kd ++ pieces_from p (suc k) es)) ≡ cells_at value_place bufs
      go Full size ih = ih
      go Compressed size ih = ih
      go Listed size ih = ih
      go Slot size ih = ih
