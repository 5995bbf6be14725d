-- The loops that spread the rows or the columns over lanes are typed.
use Rattle.std.proofs.Common.{◌≡◌, ◌≢◌, ℕ, ◌+◌, ◌<◌, true, false, refl, sym, ap, ap₂, ◌∙◌, arith, Option, Some, None}
use Rattle.us_code.specs.declared.program.Dim.{Dim}
use Rattle.us_code.specs.declared.program.Dim.TheVariants as dim
use Rattle.us_code.specs.declared.program.CellKind.{CellKind}
use Rattle.us_code.specs.declared.program.CellKind.TheVariants as kind
use Rattle.us_code.specs.declared.pieces.Columns.{Columns}
use Rattle.us_code.specs.declared.program.Buf.TheVariants as buf
use Rattle.us_code.specs.Plain.{Number, Reg, Size, Add, Mul, Code, End, Set, ◌+++◌}
use Rattle.us_code.specs.Typing.{Context, RegKind, is_some, is_put, reg_kind, buf_len, buf_cell, with_reg, fits, fits_cell, fine, sees_dim, Typed}
use Rattle.us_code_laws.proofs.Sequence.{put_same, put_other}
use Rattle.us_code_laws.proofs.Sound.{both_true}
use Rattle.us_code_laws.proofs.Typings.{typed_append}
use Rattle.us_gen.specs.Rooms.{FreshFrom}
use Rattle.us_gen_query.specs.declared.scheduling.ScheduleBuffers.{ScheduleBuffers}
use Rattle.us_gen_query.specs.Reordering.{at_index, counts}
use Rattle.us_gen_query.specs.Scheduling.{one_more, lane_turn, slots, most, take_slot, spread_turn, spread, both_looked_up, HasBuffers, ScheduleTyped, RowsTyped}
use Rattle.us_gen_query.proofs.FillsFit.{fits_same}
use Rattle.us_gen_query.proofs.ReordersFit.{below, fits_at, Indexed, in_index, indexed, at_index_typed, later, sees_more}

abbrev a_var : RegKind
a_var = record { is_var = true; kind = kind.Word }

one_more_typed : (h : Context) (cs : Columns) (size : Dim) (b n : ℕ) → Indexed h cs size n → h.bufs b ≡ Some (counts size) → Typed h (one_more b n)
one_more_typed h cs size b n x hb =
    let h1 = with_reg h (n + 3) false (buf_cell (h.bufs b)) in
    let at : h1.regs (n + 2) ≡ Some (below size) = put_other h.regs (n + 3) _ (n + 2) (omega arith) ∙ x.index in
    let more : fine h1 (Add (Reg (n + 3)) (Number 1)) ≡ true = both_true (is_some (h1.regs (n + 3))) true (ap is_some (put_same h.regs (n + 3) _)) refl in (
      x.free,
      ap is_some hb,
      ap is_some x.index,
      fits_at (h.regs (n + 2)) (h.bufs b) size kind.Word x.index hb,
      (refl, ap is_some hb, ap is_some at, more, fits_at (h1.regs (n + 2)) (h.bufs b) size kind.Word at hb, ap (fits_cell kind.Word) (ap buf_cell hb), tt),
    )

both_looked_up_typed : (h : Context) (cs : Columns) (size : Dim) (lanes : ℕ) (b : ScheduleBuffers) (n : ℕ) → Indexed h cs size n → h.regs (n + 4) ≡ None → HasBuffers h.bufs cs size lanes b → Typed h (both_looked_up b n)
both_looked_up_typed h cs size lanes b n x free4 y =
    let h1 = with_reg h (n + 3) false (buf_cell (h.bufs b.lane)) in
    let h2 = with_reg h1 (n + 4) false (buf_cell (h.bufs b.slot)) in
    let entry1 : h1.regs n ≡ Some (below (dim.Name cs.count)) = put_other h.regs (n + 3) _ n (omega arith) ∙ x.entry in
    let entry2 : h2.regs n ≡ Some (below (dim.Name cs.count)) = put_other h1.regs (n + 4) _ n (omega arith) ∙ entry1 in
    let index1 : h1.regs (n + 2) ≡ Some (below size) = put_other h.regs (n + 3) _ (n + 2) (omega arith) ∙ x.index in (
      x.free,
      ap is_some y.lane,
      ap is_some x.index,
      fits_at (h.regs (n + 2)) (h.bufs b.lane) size (kind.Below (dim.Number lanes)) x.index y.lane,
      (
        refl,
        ap is_some y.lanes,
        ap is_some entry1,
        ap is_some (put_same h.regs (n + 3) _),
        fits_at (h1.regs n) (h.bufs b.lanes) (dim.Name cs.count) kind.Word entry1 y.lanes,
        ap (fits_cell (reg_kind (h1.regs (n + 3)))) (ap buf_cell y.lanes),
        (
          put_other h.regs (n + 3) _ (n + 4) (omega arith) ∙ free4,
          ap is_some y.slot,
          ap is_some index1,
          fits_at (h1.regs (n + 2)) (h.bufs b.slot) size kind.Word index1 y.slot,
          (
            refl,
            ap is_some y.slots_in,
            ap is_some entry2,
            ap is_some (put_same h1.regs (n + 4) _),
            fits_at (h2.regs n) (h.bufs b.slots) (dim.Name cs.count) kind.Word entry2 y.slots_in,
            ap (fits_cell (reg_kind (h2.regs (n + 4)))) (ap buf_cell y.slots_in),
            tt,
          ),
        ),
      ),
    )

lane_turn_typed : (g : Context) (cs : Columns) (size : Dim) (lanes : ℕ) (b : ScheduleBuffers) (n : ℕ) → g.regs (n + 2) ≡ Some a_var → g.regs (n + 3) ≡ Some a_var → g.regs (n + 4) ≡ Some (below (dim.Number lanes)) → g.regs (n + 5) ≡ None → HasBuffers g.bufs cs size lanes b → Typed g (lane_turn b.loads n)
lane_turn_typed g cs size lanes b n best low lane free y =
    let h = with_reg g (n + 5) false (buf_cell (g.bufs b.loads)) in
    let best1 : h.regs (n + 2) ≡ Some a_var = put_other g.regs (n + 5) _ (n + 2) (omega arith) ∙ best in
    let low1 : h.regs (n + 3) ≡ Some a_var = put_other g.regs (n + 5) _ (n + 3) (omega arith) ∙ low in
    let lane1 : h.regs (n + 4) ≡ Some (below (dim.Number lanes)) = put_other g.regs (n + 5) _ (n + 4) (omega arith) ∙ lane in
    let read : is_some (h.regs (n + 5)) ≡ true = ap is_some (put_same g.regs (n + 5) _) in
    (free, ap is_some y.loads, ap is_some lane, fits_at (g.regs (n + 4)) (g.bufs b.loads) (dim.Number lanes) kind.Word lane y.loads, (read, ap is_some low1, (ap is_put low1, read, (ap is_put best1, ap is_some lane1, tt)), tt, tt))

-- what is visible where the index takes a slot
record Taking (g : Context) (size : Dim) (lanes n : ℕ) : Type 0 where
  pub longest : g.regs n ≡ Some a_var
  pub index : g.regs (n + 1) ≡ Some (below size)
  pub low : is_some (g.regs (n + 3)) ≡ true
  pub count : is_some (g.regs (n + 6)) ≡ true
  pub lane : g.regs (n + 7) ≡ Some (below (dim.Number lanes))
  pub free : g.regs (n + 8) ≡ None

take_slot_typed : (g : Context) (cs : Columns) (size : Dim) (lanes : ℕ) (b : ScheduleBuffers) (n : ℕ) → Taking g size lanes n → HasBuffers g.bufs cs size lanes b → Typed g (take_slot b n)
take_slot_typed g cs size lanes b n x y =
    let h = with_reg g (n + 8) false (buf_cell (g.bufs b.used)) in
    let other : (r : ℕ) → r ≢ n + 8 → h.regs r ≡ g.regs r = λ r e. put_other g.regs (n + 8) _ r (λ q. e (sym q)) in
    let most_var : h.regs n ≡ Some a_var = other n (omega arith) ∙ x.longest in
    let index : h.regs (n + 1) ≡ Some (below size) = other (n + 1) (omega arith) ∙ x.index in
    let low : is_some (h.regs (n + 3)) ≡ true = ap is_some (other (n + 3) (omega arith)) ∙ x.low in
    let count : is_some (h.regs (n + 6)) ≡ true = ap is_some (other (n + 6) (omega arith)) ∙ x.count in
    let lane : h.regs (n + 7) ≡ Some (below (dim.Number lanes)) = other (n + 7) (omega arith) ∙ x.lane in
    let used : is_some (h.regs (n + 8)) ≡ true = ap is_some (put_same g.regs (n + 8) _) in
    let more : fine h (slots n) ≡ true = both_true (is_some (h.regs (n + 8))) true used refl in
    let sum : fine h (Add (Reg (n + 3)) (Reg (n + 6))) ≡ true = both_true (is_some (h.regs (n + 3))) (is_some (h.regs (n + 6))) low count in
    let in_lane : fits_cell (reg_kind (h.regs (n + 7))) (buf_cell (g.bufs b.lane)) ≡ true = ap₂ (λ (o : Option RegKind) (c : CellKind). fits_cell (reg_kind o) c) lane (ap buf_cell y.lane) ∙ fits_same (dim.Number lanes) in
    let keep : Typed h (most n) = (ap is_some most_var, more, (ap is_put most_var, more, tt), tt, tt) in
    let loads : Typed h (Set (buf.New b.loads) (Reg (n + 7)) (Add (Reg (n + 3)) (Reg (n + 6))) (most n)) = (refl, ap is_some y.loads, ap is_some lane, sum, fits_at (h.regs (n + 7)) (g.bufs b.loads) (dim.Number lanes) kind.Word lane y.loads, ap (fits_cell kind.Word) (ap buf_cell y.loads), keep) in
    let taken : Typed h (Set (buf.New b.used) (Reg (n + 7)) (slots n) (Set (buf.New b.loads) (Reg (n + 7)) (Add (Reg (n + 3)) (Reg (n + 6))) (most n))) = (refl, ap is_some y.used, ap is_some lane, more, fits_at (h.regs (n + 7)) (g.bufs b.used) (dim.Number lanes) kind.Word lane y.used, ap (fits_cell kind.Word) (ap buf_cell y.used), loads) in
    let slot : Typed h (Set (buf.New b.slot) (Reg (n + 1)) (Reg (n + 8)) (Set (buf.New b.used) (Reg (n + 7)) (slots n) (Set (buf.New b.loads) (Reg (n + 7)) (Add (Reg (n + 3)) (Reg (n + 6))) (most n)))) = (refl, ap is_some y.slot, ap is_some index, used, fits_at (h.regs (n + 1)) (g.bufs b.slot) size kind.Word index y.slot, ap (fits_cell (reg_kind (h.regs (n + 8)))) (ap buf_cell y.slot), taken) in (
      x.free,
      ap is_some y.used,
      ap is_some x.lane,
      fits_at (g.regs (n + 7)) (g.bufs b.used) (dim.Number lanes) kind.Word x.lane y.used,
      (refl, ap is_some y.lane, ap is_some index, ap is_some lane, fits_at (h.regs (n + 1)) (g.bufs b.lane) size (kind.Below (dim.Number lanes)) index y.lane, in_lane, slot),
    )

spread_typed : (g : Context) (cs : Columns) (size : Dim) (lanes : ℕ) (b : ScheduleBuffers) (n : ℕ) → FreshFrom g n → sees_dim g size ≡ true → HasBuffers g.bufs cs size lanes b → Typed g (spread size b lanes n)
spread_typed g cs size lanes b n f s y =
    let g1 = with_reg g n true kind.Word in
    let g2 = with_reg g1 (n + 1) false (kind.Below size) in
    let g3 = with_reg g2 (n + 2) true kind.Word in
    let g4 = with_reg g3 (n + 3) true kind.Word in
    let g5 = with_reg g4 (n + 4) false (kind.Below (dim.Number lanes)) in
    let g6 = with_reg g4 (n + 6) false (buf_cell (g.bufs b.counts)) in
    let g7 = with_reg g6 (n + 7) false (kind.Below (dim.Number lanes)) in
    let free : (r : ℕ) → n + 3 < r → g4.regs r ≡ None = λ r l. put_other g3.regs (n + 3) _ r (omega (arith, l)) ∙ (put_other g2.regs (n + 2) _ r (omega (arith, l)) ∙ (put_other g1.regs (n + 1) _ r (omega (arith, l)) ∙ (put_other g.regs n _ r (omega (arith, l)) ∙ f.none r (omega (arith, l))))) in
    let free1 : g1.regs (n + 1) ≡ None = put_other g.regs n _ (n + 1) (omega arith) ∙ f.none (n + 1) (omega arith) in
    let free2 : g2.regs (n + 2) ≡ None = put_other g1.regs (n + 1) _ (n + 2) (omega arith) ∙ (put_other g.regs n _ (n + 2) (omega arith) ∙ f.none (n + 2) (omega arith)) in
    let free3 : g3.regs (n + 3) ≡ None = put_other g2.regs (n + 2) _ (n + 3) (omega arith) ∙ (put_other g1.regs (n + 1) _ (n + 3) (omega arith) ∙ (put_other g.regs n _ (n + 3) (omega arith) ∙ f.none (n + 3) (omega arith))) in
    let most4 : g4.regs n ≡ Some a_var = put_other g3.regs (n + 3) _ n (omega arith) ∙ (put_other g2.regs (n + 2) _ n (omega arith) ∙ (put_other g1.regs (n + 1) _ n (omega arith) ∙ put_same g.regs n _)) in
    let index4 : g4.regs (n + 1) ≡ Some (below size) = put_other g3.regs (n + 3) _ (n + 1) (omega arith) ∙ (put_other g2.regs (n + 2) _ (n + 1) (omega arith) ∙ put_same g1.regs (n + 1) _) in
    let best4 : g4.regs (n + 2) ≡ Some a_var = put_other g3.regs (n + 3) _ (n + 2) (omega arith) ∙ put_same g2.regs (n + 2) _ in
    let low4 : g4.regs (n + 3) ≡ Some a_var = put_same g3.regs (n + 3) _ in
    let search_ = lane_turn_typed g5 cs size lanes b n (put_other g4.regs (n + 4) _ (n + 2) (omega arith) ∙ best4) (put_other g4.regs (n + 4) _ (n + 3) (omega arith) ∙ low4) (put_same g4.regs (n + 4) _) (put_other g4.regs (n + 4) _ (n + 5) (omega arith) ∙ free (n + 5) (omega arith)) y in
    let through : (r : ℕ) → r < n + 6 → g7.regs r ≡ g4.regs r = λ r l. put_other g6.regs (n + 7) _ r (omega (arith, l)) ∙ put_other g4.regs (n + 6) _ r (omega (arith, l)) in
    let taking : Taking g7 size lanes n = record {
      longest = through n (omega arith) ∙ most4;
      index = through (n + 1) (omega arith) ∙ index4;
      low = ap is_some (through (n + 3) (omega arith) ∙ low4);
      count = ap is_some (put_other g6.regs (n + 7) _ (n + 6) (omega arith) ∙ put_same g4.regs (n + 6) _);
      lane = put_same g6.regs (n + 7) _;
      free = put_other g6.regs (n + 7) _ (n + 8) (omega arith) ∙ (put_other g4.regs (n + 6) _ (n + 8) (omega arith) ∙ free (n + 8) (omega arith));
    } in
    let taken = take_slot_typed g7 cs size lanes b n taking y in
    let free7 : g6.regs (n + 7) ≡ None = put_other g4.regs (n + 6) _ (n + 7) (omega arith) ∙ free (n + 7) (omega arith) in
    let best6 : is_some (g6.regs (n + 2)) ≡ true = ap is_some (put_other g4.regs (n + 6) _ (n + 2) (omega arith) ∙ best4) in
    let turn : Typed g2 (spread_turn b lanes n) =
    (free2, refl, (free3, refl, (free (n + 4) (omega arith), refl, search_, (free (n + 6) (omega arith), ap is_some y.counts_in, ap is_some index4, fits_at (g4.regs (n + 1)) (g.bufs b.counts) size kind.Word index4 y.counts_in, (free7, refl, best6, taken, tt, tt))))) in (
      f.none n (omega arith),
      refl,
      (
        free1,
        sees_more g n true kind.Word size s,
        turn,
        (refl, ap is_some y.extent, refl, ap is_some (put_same g.regs n _), ap (fits (kind.Below (dim.Number 1))) (ap buf_len y.extent), ap (fits_cell (reg_kind (g1.regs n))) (ap buf_cell y.extent), tt),
      ),
    )

pub schedule_typed : ScheduleTyped
schedule_typed g cs i size lanes b n f v s hi y =
    let g1 = with_reg g (n + 4) true kind.Word in
    let m = n + 13 in
    let f4 = later g n (n + 4) (omega arith) f in
    let f13 : FreshFrom g1 m = record { none = λ x h. put_other g.regs (n + 4) _ x (omega (arith, h)) ∙ f.none x (omega (arith, h)) } in
    let first = at_index_typed g cs i size n (one_more b.counts n) f v.count s hi (one_more_typed (in_index g cs i size n) cs size b.counts n (indexed g cs i size n f) y.counts_in) in
    let h1 = with_reg g1 m false (kind.Below (dim.Name cs.count)) in
    let h2 = with_reg h1 (m + 1) false (buf_cell (g1.bufs i)) in
    let free : (in_index g1 cs i size m).regs (m + 4) ≡ None =
    put_other h2.regs (m + 2) _ (m + 4) (omega arith) ∙ (put_other h1.regs (m + 1) _ (m + 4) (omega arith) ∙ (put_other g1.regs m _ (m + 4) (omega arith) ∙ f13.none (m + 4) (omega arith))) in
    let looked = both_looked_up_typed (in_index g1 cs i size m) cs size lanes b m (indexed g1 cs i size m f13) free y in
    let last : Typed g1 (at_index cs i size m (both_looked_up b m)) = at_index_typed g1 cs i size m (both_looked_up b m) f13 v.count (sees_more g (n + 4) true kind.Word size s) hi looked in
    let back : Code = at_index cs i size m (both_looked_up b m) in
    typed_append g (at_index cs i size n (one_more b.counts n)) (spread size b lanes (n + 4) +++ back) first
    (typed_append g (spread size b lanes (n + 4)) back (spread_typed g cs size lanes b (n + 4) f4 s y) last)

pub rows_typed : RowsTyped
rows_typed g size b lanes table extent t n f s st de hl hk ht =
    let g1 = with_reg g n false (kind.Below size) in
    let g2 = with_reg g1 (n + 1) false (buf_cell (g.bufs b.lane)) in
    let g3 = with_reg g2 (n + 2) false (buf_cell (g.bufs b.slot)) in
    let g4 = with_reg g3 (n + 3) false (kind.Below table) in
    let at1 : g1.regs n ≡ Some (below size) = put_same g.regs n _ in
    let at2 : g2.regs n ≡ Some (below size) = put_other g1.regs (n + 1) _ n (omega arith) ∙ at1 in
    let at4 : g4.regs n ≡ Some (below size) = put_other g3.regs (n + 3) _ n (omega arith) ∙ (put_other g2.regs (n + 2) _ n (omega arith) ∙ at2) in
    let free1 : g1.regs (n + 1) ≡ None = put_other g.regs n _ (n + 1) (omega arith) ∙ f.none (n + 1) (omega arith) in
    let free2 : g2.regs (n + 2) ≡ None = put_other g1.regs (n + 1) _ (n + 2) (omega arith) ∙ (put_other g.regs n _ (n + 2) (omega arith) ∙ f.none (n + 2) (omega arith)) in
    let free3 : g3.regs (n + 3) ≡ None =
    put_other g2.regs (n + 2) _ (n + 3) (omega arith) ∙ (put_other g1.regs (n + 1) _ (n + 3) (omega arith) ∙ (put_other g.regs n _ (n + 3) (omega arith) ∙ f.none (n + 3) (omega arith))) in
    let lane3 : is_some (g3.regs (n + 1)) ≡ true = ap is_some (put_other g2.regs (n + 2) _ (n + 1) (omega arith) ∙ put_same g1.regs (n + 1) _) in
    let slot3 : is_some (g3.regs (n + 2)) ≡ true = ap is_some (put_same g2.regs (n + 2) _) in
    let start : fine g3 (Mul (Reg (n + 1)) (Size (dim.Name extent))) ≡ true = both_true (is_some (g3.regs (n + 1))) (is_some (g.dims extent)) lane3 de in
    let place : fine g3 (Add (Mul (Reg (n + 1)) (Size (dim.Name extent))) (Reg (n + 2))) ≡ true =
    both_true (fine g3 (Mul (Reg (n + 1)) (Size (dim.Name extent)))) (is_some (g3.regs (n + 2))) start slot3 in
    let seen : sees_dim g3 table ≡ true =
    sees_more g2 (n + 2) false (buf_cell (g.bufs b.slot)) table (sees_more g1 (n + 1) false (buf_cell (g.bufs b.lane)) table (sees_more g n false (kind.Below size) table st)) in
    let cell : g4.regs (n + 3) ≡ Some (below table) = put_same g3.regs (n + 3) _ in
    let more : fine g4 (Add (Reg n) (Number 1)) ≡ true = both_true (is_some (g4.regs n)) true (ap is_some at4) refl in
    let set_ : Typed g4 (Set (buf.New t) (Reg (n + 3)) (Add (Reg n) (Number 1)) End) =
    (refl, ap is_some ht, ap is_some cell, more, fits_at (g4.regs (n + 3)) (g.bufs t) table kind.Word cell ht, ap (fits_cell kind.Word) (ap buf_cell ht), tt) in (
      f.none n (omega arith),
      s,
      (
        free1,
        ap is_some hl,
        ap is_some at1,
        fits_at (g1.regs n) (g.bufs b.lane) size (kind.Below (dim.Number lanes)) at1 hl,
        (free2, ap is_some hk, ap is_some at2, fits_at (g2.regs n) (g.bufs b.slot) size kind.Word at2 hk, (free3, seen, place, set_, tt, tt)),
      ),
      tt,
    )
