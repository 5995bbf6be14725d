-- What the buffers of a part hold, read by their places in the list of all buffers.
use Rattle.std.proofs.Common.{◌≡◌, ℕ, zero, suc, ◌+◌, ◌<◌, List, [], ◌∷◌, ◌++◌, map, length, drop, get_or, Bool, true, false, cond, not, ℤ, sym, refl, ap, ap₂, ◌∙◌, subst, inl, inr, arith, filter}
use Rattle.std.specs.List.{position_or_len}
use Rattle.std.proofs.Math.ListN.{length-append, length-map}
use Rattle.std.proofs.lemmas.List.{get_or_append_left, get_or-append-add, get_or-map}
use Rattle.std.proofs.lemmas.List.Sums.{length-filter}
use Rattle.std.proofs.Math.Seq.{drop-append_seam}
use Rattle.us_format.proofs.PartLaw.{map-map}
use Rattle.us_format.specs.Lists.{nth, cell, nat_of}
use Rattle.us_format.specs.Matrix.{Entry, Shape}
use Rattle.us_format.specs.Declaration.{Query, SumOf, Enumerate, Reorder, Schedule, Column, Part, same_column, has_extent, has_table}
use Rattle.us_format.specs.Queries.{extent_of, extents_of}
use Rattle.us_format.specs.Positions.{rows_of}
use Rattle.us_format.specs.Packs.{Piece, PosOf, CellsOf, pieces, own_pieces, is_packed, in_pack, same_piece, Buffer, written, nothing, buffer_of, interleaved, packed, column_from}
use Rattle.us_format.specs.Buffers.{extent_buffer, table_buffer, piece_buffers, part_buffers}
use Rattle.us_format.specs.Reading.{extent_count, table_count, own_place, pack_place, buffer_count, pack_of, packed_cells, cells_in, extents_in, tables_in, Contents, contents}
use Rattle.us_format.specs.Rules.{ArePacksLawful}
use Rattle.us_format.specs.Laws.{contents_of}
use Rattle.us_format.proofs.Order.{Mem, Mem-filter}
use Rattle.us_format.proofs.Queries.{found-first}
use Rattle.us_format.proofs.Packs.{AllLong, same-map, unpacked-is}
use Rattle.us_format.proofs.Pieces.{any-Mem, found-at, same_column-true, same_column-self, same_piece-true, same_piece-self, pieces-distinct, buffers-of-pieces, as-many-buffers, pack-long}

-- ---- buffers that stand among others

-- the buffers bs, written out, stand among all from the place k on
abbrev pub Stand : ℕ → List Buffer → List (List ℤ) → Type 0
Stand k bs all = (i j : ℕ) → i ≡ k + j → j < length bs → nth all i ≡ written (get_or bs j nothing)

pub stand-whole : (bs : List Buffer) (more : List (List ℤ)) → Stand 0 bs (map written bs ++ more)
stand-whole bs more i j e l =
    ap (nth (map written bs ++ more)) e' ∙ get_or_append_left (map written bs) more [] j (rw (length-map bs written) l) ∙ get_or-map written bs j nothing [] l
  where
    e' : i ≡ j
    e' = omega (arith, e)

pub stand-left : (k : ℕ) (xs ys : List Buffer) (all : List (List ℤ)) → Stand k (xs ++ ys) all → Stand k xs all
stand-left k xs ys all h i j e l = h i j e (rw (length-append xs ys) (omega (arith, l))) ∙ ap written (get_or_append_left xs ys nothing j l)

pub stand-right : (k : ℕ) (xs ys : List Buffer) (all : List (List ℤ)) → Stand k (xs ++ ys) all → Stand (k + length xs) ys all
stand-right k xs ys all h i j e l = h i (length xs + j) (omega (arith, e)) (rw (length-append xs ys) (omega (arith, l))) ∙ ap written (get_or-append-add xs ys j nothing)

pub stand-head : (k : ℕ) (b : Buffer) (bs : List Buffer) (all : List (List ℤ)) → Stand k (b ∷ bs) all → nth all k ≡ written b
stand-head k b bs all h = h k 0 (omega arith) (omega arith)

pub stand-tail : (k : ℕ) (b : Buffer) (bs : List Buffer) (all : List (List ℤ)) → Stand k (b ∷ bs) all → Stand (suc k) bs all
stand-tail k b bs all h i j e l = h i (suc j) (omega (arith, e)) (omega (arith, l))

pub stand-at : (k : ℕ) (bs : List Buffer) (all : List (List ℤ)) (j : ℕ) (b : Buffer) → Stand k bs all → j < length bs → get_or bs j nothing ≡ b → nth all (k + j) ≡ written b
stand-at k bs all j b h l e = h (k + j) j refl l ∙ ap written e

-- ---- the buffers of queries

pub extents-read : (m : List Entry) (s : Shape) (qs : List Query) (k : ℕ) (all : List (List ℤ)) → Stand k (map (extent_buffer m s) (filter has_extent qs)) all → extents_in k all qs ≡ map (extent_of m s) qs
extents-read m s [] k all h = refl
extents-read m s (SumOf v e ∷ qs) k all h = ap (λ l. 0 ∷ l) (extents-read m s qs k all h)
extents-read m s (Reorder v e ∷ qs) k all h = ap (λ l. 0 ∷ l) (extents-read m s qs k all h)
extents-read m s (Enumerate v e ∷ qs) k all h =
    ap₂ (λ (x : ℕ) (l : List ℕ). x ∷ l) (ap (λ (c : List ℤ). nat_of (cell c 0)) (stand-head k (extent_buffer m s (Enumerate v e)) _ all h))
    (extents-read m s qs (suc k) all (stand-tail k (extent_buffer m s (Enumerate v e)) _ all h))
extents-read m s (Schedule a t e n ∷ qs) k all h =
    ap₂ (λ (x : ℕ) (l : List ℕ). x ∷ l) (ap (λ (c : List ℤ). nat_of (cell c 0)) (stand-head k (extent_buffer m s (Schedule a t e n)) _ all h))
    (extents-read m s qs (suc k) all (stand-tail k (extent_buffer m s (Schedule a t e n)) _ all h))

pub tables-read : (m : List Entry) (s : Shape) (qs : List Query) (k : ℕ) (all : List (List ℤ)) → Stand k (map (table_buffer m s) (filter has_table qs)) all → tables_in k all qs ≡ map (λ q. written (table_buffer m s q)) qs
tables-read m s [] k all h = refl
tables-read m s (SumOf v e ∷ qs) k all h = ap (λ (l : List (List ℤ)). [] ∷ l) (tables-read m s qs k all h)
tables-read m s (Enumerate v e ∷ qs) k all h = ap (λ (l : List (List ℤ)). [] ∷ l) (tables-read m s qs k all h)
tables-read m s (Reorder v e ∷ qs) k all h =
    ap₂ (λ (x : List ℤ) (l : List (List ℤ)). x ∷ l) (stand-head k (table_buffer m s (Reorder v e)) _ all h)
    (tables-read m s qs (suc k) all (stand-tail k (table_buffer m s (Reorder v e)) _ all h))
tables-read m s (Schedule a t e n ∷ qs) k all h =
    ap₂ (λ (x : List ℤ) (l : List (List ℤ)). x ∷ l) (stand-head k (table_buffer m s (Schedule a t e n)) _ all h)
    (tables-read m s qs (suc k) all (stand-tail k (table_buffer m s (Schedule a t e n)) _ all h))

pub nth-Mem : {A : Type 0} (xs : List (List A)) (j : ℕ) → j < length xs → Mem (nth xs j) xs
nth-Mem [] j l = absurd (omega (arith, l))
nth-Mem (x ∷ xs) zero l = inl refl
nth-Mem (x ∷ xs) (suc j) l = inr (nth-Mem xs j (omega (arith, l)))

-- ---- pieces, their own and packed ones

module _ (p : Part) (bs : List Buffer) (all : List (List ℤ)) (stand : Stand (extent_count p + table_count p) (packed p bs) all) where
  -- the buffer of a piece
  abbrev pub its : Piece → Buffer
  its x = buffer_of x (pieces p) bs

  abbrev pub own_buffers : List Buffer
  own_buffers = map its (own_pieces p)

  abbrev pub pack_buffer : List Column → Buffer
  pack_buffer pack = interleaved (map (λ c. its (CellsOf c)) pack)

  pub own-read : (x : Piece) → Mem x (pieces p) → is_packed p x ≡ false → nth all (own_place p x) ≡ written (its x)
  own-read x m h =
      let f = found-at same_piece same_piece-true same_piece-self x (own_pieces p) x (Mem-filter (λ y. not (is_packed p y)) x (pieces p) m (ap not h)) in
      stand-at (extent_count p + table_count p) own_buffers all (position_or_len (same_piece x) (own_pieces p)) (its x) (stand-left _ own_buffers (map pack_buffer p.packs) all stand)
      (rw (length-map (own_pieces p) its) f.0) (get_or-map its (own_pieces p) _ x nothing f.0 ∙ ap its f.1)

  -- the pack that has a column, the first one
  pub pack-found : (c : Column) → is_packed p (CellsOf c) ≡ true → (pack_of p c < length p.packs) × Mem c (nth p.packs (pack_of p c))
  pack-found c h = let f = found-first (in_pack c) p.packs [] h in (f.0, any-Mem same_column same_column-true same_column-self c (nth p.packs (pack_of p c)) f.1)

  pub pack-read : (j : ℕ) → j < length p.packs → nth all (pack_place p j) ≡ written (pack_buffer (nth p.packs j))
  pack-read j l =
      ap (nth all) (ap (λ n. extent_count p + table_count p + n + j) (sym (length-map (own_pieces p) its)))
      ∙ stand-at (extent_count p + table_count p + length own_buffers) (map pack_buffer p.packs) all j (pack_buffer (nth p.packs j)) (stand-right _ own_buffers (map pack_buffer p.packs) all stand)
      (rw (length-map p.packs pack_buffer) l) (get_or-map pack_buffer p.packs j [] nothing l)

  module _ (long : (pack : List Column) → Mem pack p.packs → (len : ℕ) × AllLong len (map (λ c. its (CellsOf c)) pack)) where
    pub packed-read : (c : Column) → is_packed p (CellsOf c) ≡ true → packed_cells p all (pack_of p c) c ≡ written (its (CellsOf c))
    packed-read c h =
        let j : ℕ = pack_of p c in
        let pack : List Column = nth p.packs (pack_of p c) in
        let w = pack-found c h in
        let cs : List Buffer = map column pack in
        let y : ℕ = position_or_len (same_column c) pack in
        let f : (y < length pack) × (get_or pack y c ≡ c) = found-at same_column same_column-true same_column-self c pack c w.1 in
        let n : length cs ≡ length pack = length-map pack column in
        let lg : (len : ℕ) × AllLong len cs = long pack (nth-Mem p.packs j w.0) in
        ap (column_from (length pack) y) (pack-read j w.0)
        ∙ ap (λ k. column_from k y (written (interleaved cs))) (sym n)
        ∙ unpacked-is lg.0 cs y lg.1 (rw n f.0)
        ∙ ap written (get_or-map column pack y c nothing f.0 ∙ ap column f.1)
      where
        column : Column → Buffer
        column d = its (CellsOf d)

    -- the cells of a piece, wherever they are kept
    pub cells-read : (x : Piece) → Mem x (pieces p) → cells_in p all x ≡ written (its x)
    cells-read (PosOf k) m = own-read (PosOf k) m refl
    cells-read (CellsOf c) m = go (is_packed p (CellsOf c)) refl
      where
        go : (b : Bool) → is_packed p (CellsOf c) ≡ b → cond b (packed_cells p all (pack_of p c) c) (nth all (own_place p (CellsOf c))) ≡ written (its (CellsOf c))
        go true h = packed-read c h
        go false h = own-read (CellsOf c) m h

-- ---- a part

module _ (s : Shape) (p : Part) (m : List Entry) (packs : ArePacksLawful p) (more : List (List ℤ)) where
  abbrev pub unpacked : List Buffer
  unpacked = piece_buffers s p m

  -- the buffers of the part, then others
  abbrev pub laid : List (List ℤ)
  laid = map written (part_buffers s p m) ++ more

  abbrev pub extents : List Buffer
  extents = map (extent_buffer m s) (filter has_extent p.queries)

  abbrev pub tables : List Buffer
  tables = map (table_buffer m s) (filter has_table p.queries)

  pub extents-number : length extents ≡ extent_count p
  extents-number = length-map (filter has_extent p.queries) (extent_buffer m s) ∙ length-filter has_extent p.queries

  pub tables-number : length tables ≡ table_count p
  tables-number = length-map (filter has_table p.queries) (table_buffer m s) ∙ length-filter has_table p.queries

  pub stand-part : Stand 0 (part_buffers s p m) laid
  stand-part = stand-whole (part_buffers s p m) more

  pub stand-extents : Stand 0 extents laid
  stand-extents = stand-left 0 extents (tables ++ packed p unpacked) laid stand-part

  pub stand-rest : Stand (extent_count p) (tables ++ packed p unpacked) laid
  stand-rest = subst (λ k. Stand k (tables ++ packed p unpacked) laid) (omega (arith, extents-number)) (stand-right 0 extents (tables ++ packed p unpacked) laid stand-part)

  pub stand-tables : Stand (extent_count p) tables laid
  stand-tables = stand-left (extent_count p) tables (packed p unpacked) laid stand-rest

  pub stand-packed : Stand (extent_count p + table_count p) (packed p unpacked) laid
  stand-packed = subst (λ k. Stand (extent_count p + k) (packed p unpacked) laid) tables-number (stand-right (extent_count p) tables (packed p unpacked) laid stand-rest)

  pub pieces-number : length unpacked ≡ length (pieces p)
  pieces-number = as-many-buffers s (extents_of m s p) p 0 p.levels 1 (rows_of m s p)

  pub pieces-are : map (λ x. buffer_of x (pieces p) unpacked) (pieces p) ≡ unpacked
  pieces-are = buffers-of-pieces (pieces p) unpacked (pieces-distinct p 0 p.levels) pieces-number

  pub packs-long : (pack : List Column) → Mem pack p.packs → (len : ℕ) × AllLong len (map (λ c. buffer_of (CellsOf c) (pieces p) unpacked) pack)
  packs-long = pack-long p packs s (extents_of m s p) 1 (rows_of m s p) (λ x. buffer_of x (pieces p) unpacked) pieces-are

  pub cells-are : map (cells_in p laid) (pieces p) ≡ map written unpacked
  cells-are =
      same-map (cells_in p laid) (λ x. written (buffer_of x (pieces p) unpacked)) (pieces p) (cells-read p unpacked laid stand-packed packs-long)
      ∙ sym (map-map written (λ x. buffer_of x (pieces p) unpacked) (pieces p)) ∙ ap (map written) pieces-are

  -- what is read of a part's buffers is what they hold
  pub contents-are : contents p laid ≡ contents_of s p m
  contents-are =
      same (extents-read m s p.queries 0 laid stand-extents) (tables-read m s p.queries (extent_count p) laid stand-tables) cells-are
    where
      made : List ℕ → List (List ℤ) → List (List ℤ) → Contents
      made a c e = record { extents = a; tables = c; cells = e }

      same : {a b : List ℕ} {c d e f : List (List ℤ)} → a ≡ b → c ≡ d → e ≡ f → made a c e ≡ made b d f
      same {a} {b} {c} {d} {e} {f} x y z = rw (x, y, z) refl

  pub buffers-number : length (part_buffers s p m) ≡ buffer_count p
  buffers-number =
      length-append extents (tables ++ packed p unpacked)
      ∙ ap₂ (λ (a b : ℕ). a + b) extents-number (length-append tables (packed p unpacked) ∙ ap₂ (λ (a b : ℕ). a + b) tables-number packed-number)
      ∙ omega arith
    where
      packed-number : length (packed p unpacked) ≡ length (own_pieces p) + length p.packs
      packed-number = simp (length-append, length-map)

  -- behind a part's buffers stand the others
  pub drop-part : drop (buffer_count p) laid ≡ more
  drop-part =
      ap (λ k. drop k laid) (sym (length-map (part_buffers s p m) written ∙ buffers-number)) ∙ drop-append_seam (map written (part_buffers s p m)) more
