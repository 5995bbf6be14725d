-- The place of a column holds its cells.
use Rattle.std.proofs.Common.{◌≡◌, ℕ, ◌+◌, ◌*◌, ◌<◌, List, [], map, length, get_or, Bool, true, false, cond, not, ℤ, sym, refl, ap, ◌∙◌, subst, arith}
use Rattle.std.specs.List.{position_or_len}
use Rattle.std.proofs.lemmas.List.{get_or-map, length-map, append-nil}
use Rattle.us_format.specs.Lists.{nth, cell}
use Rattle.us_format.specs.Matrix.{Shape, Entry}
use Rattle.us_format.specs.Declaration.{Column, Part, same_column}
use Rattle.us_format.specs.Packs.{Piece, CellsOf, pieces, own_pieces, is_packed, same_piece, Buffer, written, nothing, buffer_of, interleaved}
use Rattle.us_format.specs.Buffers.{piece_buffers}
use Rattle.us_format.specs.Reading.{own_place, pack_place, buffer_count, pack_of, cells_in}
use Rattle.us_format.specs.Rules.{ArePacksLawful}
use Rattle.us_format.proofs.Order.{Mem, Mem-filter}
use Rattle.us_format.proofs.Climb.{cell-written, length-written}
use Rattle.us_format.proofs.Packs.{AllLong, long-sum, long-at, pack-cell}
use Rattle.us_format.proofs.Pieces.{found-at, same_column-true, same_column-self, same_piece-true, same_piece-self}
use Rattle.us_format.proofs.Places.{laid, nth-Mem, own-read, pack-found, pack-read, cells-read, stand-packed, packs-long, buffers-number}
use Rattle.us_code.specs.Run.{Env}
use Rattle.us_gen_walk.specs.declared.places.Column.TheVariants as cells
use Rattle.us_gen_walk.specs.Runs.{HasColumn}
use Rattle.us_gen_places.specs.declared.start.PartStart.{PartStart}
use Rattle.us_gen_places.specs.Places.{place_of}
use Rattle.us_gen_places.specs.Holds.{held_by, HasBuffers}

-- the cells of each piece of a part
abbrev pub cells_of : Shape → Part → List Entry → Piece → List ℤ
cells_of s p m x = written (buffer_of x (pieces p) (piece_buffers s p m))

module _ (env : Env) (a : PartStart) (s : Shape) (p : Part) (m : List Entry) (packs : ArePacksLawful p) (has : HasBuffers env a s p m) where
  abbrev all : List (List ℤ)
  all = laid s p m packs []

  abbrev C : Piece → List ℤ
  C = cells_of s p m

  same_lists : all ≡ held_by s p m
  same_lists = append-nil (held_by s p m)

  source-is : (k : ℕ) → k < buffer_count p → env.sources (a.source + k) ≡ nth (laid s p m packs []) k
  source-is k l = has.sources k (rw (buffers-number s p m packs []) l) ∙ ap (λ (xs : List (List ℤ)). nth xs k) (sym same_lists)

  own_below : (x : Piece) → Mem x (pieces p) → is_packed p x ≡ false → own_place p x < buffer_count p
  own_below x mem h =
      let f = found-at same_piece same_piece-true same_piece-self x (own_pieces p) x (Mem-filter (λ y. not (is_packed p y)) x (pieces p) mem (ap not h)) in
      omega (arith, f.0)

  -- the source of a piece that no pack has
  pub own-is : (x : Piece) → Mem x (pieces p) → is_packed p x ≡ false → env.sources (a.source + own_place p x) ≡ cells_of s p m x
  own-is x mem h = source-is (own_place p x) (own_below x mem h) ∙ own-read p (piece_buffers s p m) (laid s p m packs []) (stand-packed s p m packs []) x mem h

  -- the cells by their places in the buffers
  pub read-is : (x : Piece) → Mem x (pieces p) → cells_in p (held_by s p m) x ≡ cells_of s p m x
  read-is x mem =
      ap (λ (xs : List (List ℤ)). cells_in p xs x) (sym same_lists)
      ∙ cells-read p (piece_buffers s p m) (laid s p m packs []) (stand-packed s p m packs []) (packs-long s p m packs []) x mem

  pub column-is : (c : Column) → Mem (CellsOf c) (pieces p) → HasColumn env (place_of a p c) (cells_of s p m (CellsOf c))
  column-is c mem = go (is_packed p (CellsOf c)) refl
    where
      go : (b : Bool) → is_packed p (CellsOf c) ≡ b
          → HasColumn env (cond b (cells.Packed (a.source + pack_place p (pack_of p c)) (length (nth p.packs (pack_of p c))) (position_or_len (same_column c) (nth p.packs (pack_of p c)))) (cells.Own (a.source + own_place p (CellsOf c)))) (cells_of s p m (CellsOf c))
      go false h = own-is (CellsOf c) mem h
      go true h =
          let column : Column → Buffer = λ d. buffer_of (CellsOf d) (pieces p) (piece_buffers s p m) in
          let pack : List Column = nth p.packs (pack_of p c) in
          let y : ℕ = position_or_len (same_column c) (nth p.packs (pack_of p c)) in
          let w = pack-found p (piece_buffers s p m) (laid s p m packs []) (stand-packed s p m packs []) c h in
          let cs : List Buffer = map column pack in
          let f : (y < length pack) × (get_or pack y c ≡ c) = found-at same_column same_column-true same_column-self c pack c w.1 in
          let n : length cs ≡ length pack = length-map pack column in
          let lg : (len : ℕ) × AllLong len cs = packs-long s p m packs [] pack (nth-Mem p.packs (pack_of p c) w.0) in
          let below : y < length cs = rw n f.0 in
          let got : get_or cs y nothing ≡ column c = get_or-map column pack y c nothing f.0 ∙ ap column f.1 in
          let long : (column c).len ≡ lg.0 = ap (λ (b : Buffer). b.len) (sym got) ∙ long-at lg.0 cs y lg.1 below in
          let src : env.sources (a.source + pack_place p (pack_of p c)) ≡ written (interleaved cs) =
          source-is (pack_place p (pack_of p c)) (omega (arith, w.0)) ∙ pack-read p (piece_buffers s p m) (laid s p m packs []) (stand-packed s p m packs []) (pack_of p c) w.0 in
          let size : length (env.sources (a.source + pack_place p (pack_of p c))) ≡ length (written (column c)) * length pack =
          ap (λ (xs : List ℤ). length xs) src ∙ length-written (interleaved cs) ∙ long-sum lg.0 cs lg.1 ∙ ap (λ k. k * lg.0) n ∙ ap (λ k. length pack * k) (sym (length-written (column c) ∙ long)) ∙ omega arith in
          record {
            digit_is = f.0;
            long = size;
            small = has.short (a.source + pack_place p (pack_of p c));
            each = λ q lq.
                let inside : q < (column c).len = subst (λ k. q < k) (length-written (column c)) lq in
                let lower : q < lg.0 = subst (λ k. q < k) long inside in
                ap (λ (xs : List ℤ). cell xs (q * length pack + y)) src ∙ ap (λ k. cell (written (interleaved cs)) (q * k + y)) (sym n) ∙ pack-cell lg.0 cs q y lg.1 below lower
                ∙ ap (λ (b : Buffer). b.cell q) got ∙ sym (cell-written (column c) q inside);
          }
