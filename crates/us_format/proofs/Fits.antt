-- The buffers of a matrix pass all tests of their lengths, and the numbers of positions that are read off are right.
use Rattle.std.proofs.Common.{◌≡◌, ℕ, suc, ◌+◌, ◌*◌, ◌%◌, ◌<◌, ◌≤◌, ◌⊎◌, List, [], ◌∷◌, ◌++◌, map, length, Bool, true, false, cond, not, eqb, ℤ, pos, sym, refl, ap, ◌∙◌, subst, inl, inr, arith, None, eq-eqb, le-leb, filter}
use Rattle.std.specs.List.{list_any}
use Rattle.std.proofs.lemmas.Bool.{and_from, or_cases, or_left, or_right, false≢true}
use Rattle.std.proofs.lemmas.Int.{ints}
use Rattle.std.proofs.Math.Nat.{mul-mod_right}
use Rattle.std.proofs.Math.ListN.{length-map}
use Rattle.us_expr.specs.Tree.{Tree}
use Rattle.us_format.specs.declared.Kind.{Kind}
use Rattle.us_format.specs.declared.Kind.TheVariants.{Full, Compressed, Listed, Slot}
use Rattle.us_format.specs.Lists.{first_of, when, nth}
use Rattle.us_format.specs.Matrix.{Entry, Shape}
use Rattle.us_format.specs.Declaration.{Query, SumOf, Enumerate, Reorder, Schedule, Column, LevelColumn, ValueColumn, Part, axis_of, same_column, has_extent, has_table}
use Rattle.us_format.specs.Queries.{extent_of, extents_of, schedule_extent}
use Rattle.us_format.specs.Coordinates.{level_range, span}
use Rattle.us_format.specs.Kinds.{Level, kind, levels_from, levels_of}
use Rattle.us_format.specs.Positions.{Row, rows_of, nodes, count_below, down, counts}
use Rattle.us_format.specs.Packs.{Piece, PosOf, CellsOf, level_pieces, pieces_from, pieces, is_packed, in_pack, Buffer, written, buffer_of, interleaved}
use Rattle.us_format.specs.Buffers.{extent_buffer, table_buffer, pos_buffer, crd_buffer, val_buffer, buffers_at, level_buffers, part_counts}
use Rattle.us_format.specs.Reading.{limit, extent_count, cells_in, pack_of, pack_place, own_place, place_of, count_in, counts_in, Test, is_extent, extent_tests, table_fits, table_tests, begins, pack_tests, level_tests, walk, part_tests, extents_in, part_counts_in}
use Rattle.us_format.specs.Rules.{HasLanes, ArePacksLawful}
use Rattle.us_format.proofs.Order.{Mem}
use Rattle.us_format.proofs.Climb.{length-written}
use Rattle.us_format.proofs.RecoverLaw.{le-true}
use Rattle.us_format.proofs.Lanes.{lanes-hold}
use Rattle.us_format.proofs.Packs.{AllLong, long-sum}
use Rattle.us_format.proofs.Pieces.{one-same, rest-same, two-same}
use Rattle.us_format.proofs.Places.{Stand, stand-head, stand-tail, nth-Mem, extents-read, pack-found, pack-read, laid, unpacked, packs-long, stand-extents, stand-tables, stand-packed, cells-are}

-- ---- tests that pass

abbrev pub AllPass : List Test → Type 0
AllPass [] = Unit {0}
AllPass (t ∷ ts) = (t.1 ≡ true) × AllPass ts

pub pass-append : (xs ys : List Test) → AllPass xs → AllPass ys → AllPass (xs ++ ys)
pass-append [] ys a b = b
pass-append (x ∷ xs) ys a b = (a.0, pass-append xs ys a.1 b)

pub pass-moved : (k : ℕ) (xs : List Test) → AllPass xs → AllPass (map (λ t. (k + t.0, t.1)) xs)
pass-moved k [] a = tt
pass-moved k (x ∷ xs) a = (a.0, pass-moved k xs a.1)

pub none-fails : (xs : List Test) → AllPass xs → first_of (λ t. when (not t.1) t.0) xs ≡ None
none-fails [] a = refl
none-fails (x ∷ xs) a = rw a.0 (none-fails xs a.1)

-- ---- extents and tables

pub extent-passes : (e : ℕ) → e ≤ limit → is_extent (pos e ∷ []) ≡ true
extent-passes e h = and_from _ _ (le-true (pos 0) (pos e) (omega (arith, ints))) (le-true (pos e) (pos limit) (omega (arith, ints, h)))

pub extents-pass : (m : List Entry) (s : Shape) (qs : List Query) (k : ℕ) (all : List (List ℤ)) → Stand k (map (extent_buffer m s) (filter has_extent qs)) all
    → ((q : Query) → Mem q qs → extent_of m s q ≤ limit) → AllPass (extent_tests k all qs)
extents-pass m s [] k all h small = tt
extents-pass m s (SumOf v e ∷ qs) k all h small = extents-pass m s qs k all h (λ q m. small q (inr m))
extents-pass m s (Reorder v e ∷ qs) k all h small = extents-pass m s qs k all h (λ q m. small q (inr m))
extents-pass m s (Enumerate v e ∷ qs) k all h small = (
  ap is_extent (stand-head k (extent_buffer m s (Enumerate v e)) _ all h) ∙ extent-passes (extent_of m s (Enumerate v e)) (small (Enumerate v e) (inl refl)),
  extents-pass m s qs (suc k) all (stand-tail k (extent_buffer m s (Enumerate v e)) _ all h) (λ q m. small q (inr m)),
)
extents-pass m s (Schedule a t e n ∷ qs) k all h small = (
  ap is_extent (stand-head k (extent_buffer m s (Schedule a t e n)) _ all h) ∙ extent-passes (extent_of m s (Schedule a t e n)) (small (Schedule a t e n) (inl refl)),
  extents-pass m s qs (suc k) all (stand-tail k (extent_buffer m s (Schedule a t e n)) _ all h) (λ q m. small q (inr m)),
)

pub table-passes : (m : List Entry) (s : Shape) (q : Query) → HasLanes q → table_fits s q (extent_of m s q) (written (table_buffer m s q)) ≡ true
table-passes m s (SumOf v e) h = refl
table-passes m s (Enumerate v e) h = refl
table-passes m s (Reorder v e) h = eq-eqb _ _ (length-written (table_buffer m s (Reorder v e)))
table-passes m s (Schedule a t e n) h =
    let l : length (written (table_buffer m s (Schedule a t e n))) ≡ n * schedule_extent m s (axis_of e) n = length-written (table_buffer m s (Schedule a t e n)) in
    and_from _ _ (eq-eqb _ _ l) (le-leb _ _ (rw l (lanes-hold m (axis_of e) s n h)))

pub tables-pass : (m : List Entry) (s : Shape) (qs : List Query) (k : ℕ) (all : List (List ℤ)) → Stand k (map (table_buffer m s) (filter has_table qs)) all
    → ((q : Query) → Mem q qs → HasLanes q) → AllPass (table_tests s k all qs (map (extent_of m s) qs))
tables-pass m s [] k all h lanes = tt
tables-pass m s (SumOf v e ∷ qs) k all h lanes = tables-pass m s qs k all h (λ q m. lanes q (inr m))
tables-pass m s (Enumerate v e ∷ qs) k all h lanes = tables-pass m s qs k all h (λ q m. lanes q (inr m))
tables-pass m s (Reorder v e ∷ qs) k all h lanes = (
  ap (table_fits s (Reorder v e) (extent_of m s (Reorder v e))) (stand-head k (table_buffer m s (Reorder v e)) _ all h) ∙ table-passes m s (Reorder v e) (lanes (Reorder v e) (inl refl)),
  tables-pass m s qs (suc k) all (stand-tail k (table_buffer m s (Reorder v e)) _ all h) (λ q m. lanes q (inr m)),
)
tables-pass m s (Schedule a t e n ∷ qs) k all h lanes = (
  ap (table_fits s (Schedule a t e n) (extent_of m s (Schedule a t e n))) (stand-head k (table_buffer m s (Schedule a t e n)) _ all h)
      ∙ table-passes m s (Schedule a t e n) (lanes (Schedule a t e n) (inl refl)),
  tables-pass m s qs (suc k) all (stand-tail k (table_buffer m s (Schedule a t e n)) _ all h) (λ q m. lanes q (inr m)),
)

-- ---- levels and values

module _ (p : Part) (all : List (List ℤ)) (packs : (c : Column) → AllPass (pack_tests p all c)) where
  -- one level of this kind and size
  abbrev pub level : Kind → ℕ → Level
  level kd size = record { kind = kd; size = size }

  abbrev pub Held : ℕ → List Tree → List Buffer → Type 0
  Held k es bs = map (cells_in p all) (pieces_from p k es) ≡ map written bs

  abbrev pub LevelHeld : ℕ → List Tree → Kind → ℕ → ℕ → List Row → List Level → Type 0
  LevelHeld k es kd size n rows ls =
      map (cells_in p all) (level_pieces k kd ++ pieces_from p (suc k) es) ≡ map written (buffers_at kd size n rows ++ level_buffers ls (count_below kd size n rows) (down kd size rows))

  pub crd-long : (k : ℕ) (kd : Kind) (size n : ℕ) (rows : List Row) → cells_in p all (CellsOf (LevelColumn k)) ≡ written (crd_buffer kd size n rows)
      → length (cells_in p all (CellsOf (LevelColumn k))) ≡ count_below kd size n rows
  crd-long k kd size n rows h = ap length h ∙ length-written (crd_buffer kd size n rows)

  pub level-rest : (k : ℕ) (es : List Tree) (kd : Kind) (size n : ℕ) (rows : List Row) (ls : List Level) → LevelHeld k es kd size n rows ls
      → Held (suc k) es (level_buffers ls (count_below kd size n rows) (down kd size rows))
  level-rest k es Full size n rows ls h = h
  level-rest k es Compressed size n rows ls h = (two-same _ _ _ _ _ _ h).1
  level-rest k es Listed size n rows ls h = (two-same _ _ _ _ _ _ h).1
  level-rest k es Slot size n rows ls h = rest-same _ _ _ _ h

  pub level-count : (k : ℕ) (es : List Tree) (kd : Kind) (size n : ℕ) (rows : List Row) (ls : List Level) → LevelHeld k es kd size n rows ls
      → count_in p all k (level kd size) n ≡ count_below kd size n rows
  level-count k es Full size n rows ls h = refl
  level-count k es Compressed size n rows ls h = crd-long k Compressed size n rows (two-same _ _ _ _ _ _ h).0
  level-count k es Listed size n rows ls h = crd-long k Listed size n rows (two-same _ _ _ _ _ _ h).0
  level-count k es Slot size n rows ls h = refl

  pub long-passes : (x : Piece) (b : Buffer) (n : ℕ) → cells_in p all x ≡ written b → b.len ≡ n → eqb (length (cells_in p all x)) n ≡ true
  long-passes x b n h l = eq-eqb _ _ (ap length h ∙ length-written b ∙ l)

  pub level-passes : (k : ℕ) (es : List Tree) (kd : Kind) (size n : ℕ) (rows : List Row) (ls : List Level) → LevelHeld k es kd size n rows ls
      → AllPass (level_tests p all k kd n)
  level-passes k es Full size n rows ls h = tt
  level-passes k es Compressed size n rows ls h = (long-passes (PosOf k) (pos_buffer (nodes Compressed rows) n) (n + 1) (one-same _ _ _ _ h) refl, packs (LevelColumn k))
  level-passes k es Listed size n rows ls h = (long-passes (PosOf k) (pos_buffer (nodes Listed rows) n) (n + 1) (one-same _ _ _ _ h) refl, packs (LevelColumn k))
  level-passes k es Slot size n rows ls h =
      pass-append (pack_tests p all (LevelColumn k)) _ (packs (LevelColumn k)) (long-passes (CellsOf (LevelColumn k)) (crd_buffer Slot size n rows) n (one-same _ _ _ _ h) refl, tt)

  pub walk-passes : (s : Shape) (extents : List ℕ) (k : ℕ) (es : List Tree) (n : ℕ) (rows : List Row) → Held k es (level_buffers (levels_from s extents p k es) n rows)
      → AllPass (walk p all k (levels_from s extents p k es) n)
  walk-passes s extents k [] n rows h = pass-append (pack_tests p all ValueColumn) _ (packs ValueColumn) (long-passes (CellsOf ValueColumn) (val_buffer n rows) n (one-same _ _ _ _ h) refl, tt)
  walk-passes s extents k (e ∷ es) n rows h =
      pass-append (level_tests p all k (kind p k) n) _ (level-passes k es (kind p k) (span (level_range s extents p e)) n rows (levels_from s extents p (suc k) es) h)
      (subst (λ (c : ℕ). AllPass (walk p all (suc k) (levels_from s extents p (suc k) es) c)) (sym (level-count k es (kind p k) (span (level_range s extents p e)) n rows (levels_from s extents p (suc k) es) h))
      (walk-passes s extents (suc k) es (count_below (kind p k) (span (level_range s extents p e)) n rows) (down (kind p k) (span (level_range s extents p e)) rows)
      (level-rest k es (kind p k) (span (level_range s extents p e)) n rows (levels_from s extents p (suc k) es) h)))

  pub counts-read : (s : Shape) (extents : List ℕ) (k : ℕ) (es : List Tree) (n : ℕ) (rows : List Row) → Held k es (level_buffers (levels_from s extents p k es) n rows)
      → counts_in p all k (levels_from s extents p k es) n ≡ counts (levels_from s extents p k es) n rows
  counts-read s extents k [] n rows h = refl
  counts-read s extents k (e ∷ es) n rows h =
      ap (λ (c : ℕ). c ∷ counts_in p all (suc k) (levels_from s extents p (suc k) es) c) (level-count k es (kind p k) (span (level_range s extents p e)) n rows (levels_from s extents p (suc k) es) h)
      ∙ ap (λ (l : List ℕ). count_below (kind p k) (span (level_range s extents p e)) n rows ∷ l)
      (counts-read s extents (suc k) es (count_below (kind p k) (span (level_range s extents p e)) n rows) (down (kind p k) (span (level_range s extents p e)) rows)
      (level-rest k es (kind p k) (span (level_range s extents p e)) n rows (levels_from s extents p (suc k) es) h))

-- ---- packs

pub begins-in : (c : Column) (packs : List (List Column)) → list_any (begins c) packs ≡ true → list_any (in_pack c) packs ≡ true
begins-in c [] h = absurd (false≢true h)
begins-in c (pack ∷ packs) h = go (or_cases (begins c pack) (list_any (begins c) packs) h) (begins-in c packs)
  where
    first : (pack : List Column) → begins c pack ≡ true → in_pack c pack ≡ true
    first [] q = absurd (false≢true q)
    first (x ∷ xs) q = or_left (same_column c x) (list_any (same_column c) xs) q

    go : ((begins c pack ≡ true) ⊎ (list_any (begins c) packs ≡ true)) → (list_any (begins c) packs ≡ true → list_any (in_pack c) packs ≡ true) → list_any (in_pack c) (pack ∷ packs) ≡ true
    go (inl q) ih = or_left (in_pack c pack) (list_any (in_pack c) packs) (first pack q)
    go (inr q) ih = or_right (in_pack c pack) (list_any (in_pack c) packs) (ih q)

-- ---- a part

module _ (s : Shape) (p : Part) (m : List Entry) (lawful : ArePacksLawful p) (more : List (List ℤ)) where
  abbrev pub here : List (List ℤ)
  here = laid s p m lawful more

  pub pack-multiple : (c : Column) → is_packed p (CellsOf c) ≡ true → length (nth here (pack_place p (pack_of p c))) % length (nth p.packs (pack_of p c)) ≡ 0
  pack-multiple c h =
      let pack : List Column = nth p.packs (pack_of p c) in
      let l : pack_of p c < length p.packs = (pack-found p (unpacked s p m lawful more) here (stand-packed s p m lawful more) c h).0 in
      let lg : (len : ℕ) × AllLong len (map column pack) = packs-long s p m lawful more pack (nth-Mem p.packs (pack_of p c) l) in
      let e : length (nth here (pack_place p (pack_of p c))) ≡ length pack * lg.0 =
      ap length (pack-read p (unpacked s p m lawful more) here (stand-packed s p m lawful more) (pack_of p c) l)
      ∙ length-written (interleaved (map column pack)) ∙ long-sum lg.0 (map column pack) lg.1 ∙ ap (λ n. n * lg.0) (length-map pack column) in
      ap (λ n. n % length pack) e ∙ mul-mod_right (length pack) lg.0
    where
      column : Column → Buffer
      column d = buffer_of (CellsOf d) (pieces p) (unpacked s p m lawful more)

  pub packs-pass : (c : Column) → AllPass (pack_tests p here c)
  packs-pass c = go (list_any (begins c) p.packs) refl
    where
      at_pack : ℕ → Bool
      at_pack k = eqb (length (nth here k) % length (nth p.packs (pack_of p c))) 0

      go : (b : Bool) → list_any (begins c) p.packs ≡ b → AllPass (cond b ((place_of p (CellsOf c), at_pack (place_of p (CellsOf c))) ∷ []) [])
      go false h = tt
      go true h =
          let k : is_packed p (CellsOf c) ≡ true = begins-in c p.packs h in
          let e : place_of p (CellsOf c) ≡ pack_place p (pack_of p c) = ap (λ (b : Bool). cond b (pack_place p (pack_of p c)) (own_place p (CellsOf c))) k in
          (ap at_pack e ∙ eq-eqb _ _ (pack-multiple c k), tt)

  pub extents-are : extents_in 0 here p.queries ≡ extents_of m s p
  extents-are = extents-read m s p.queries 0 here (stand-extents s p m lawful more)

  pub part-passes : ((q : Query) → Mem q p.queries → HasLanes q) → ((q : Query) → Mem q p.queries → extent_of m s q ≤ limit) → AllPass (part_tests s p here)
  part-passes lanes small =
      pass-append (extent_tests 0 here p.queries) _ (extents-pass m s p.queries 0 here (stand-extents s p m lawful more) small)
      (subst (λ (extents : List ℕ). AllPass (table_tests s (extent_count p) here p.queries extents ++ walk p here 0 (levels_of s extents p) 1)) (sym extents-are)
      (pass-append (table_tests s (extent_count p) here p.queries (extents_of m s p)) _ (tables-pass m s p.queries (extent_count p) here (stand-tables s p m lawful more) lanes)
      (walk-passes p here packs-pass s (extents_of m s p) 0 p.levels 1 (rows_of m s p) (cells-are s p m lawful more))))

  pub part-counts-read : part_counts_in s p here ≡ part_counts s p m
  part-counts-read =
      ap (λ (extents : List ℕ). counts_in p here 0 (levels_of s extents p) 1) extents-are
      ∙ counts-read p here packs-pass s (extents_of m s p) 0 p.levels 1 (rows_of m s p) (cells-are s p m lawful more)
