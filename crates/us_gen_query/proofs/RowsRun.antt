-- What the loop that makes the table of the lanes does.
use Rattle.std.proofs.Common.{◌≡◌, ◌≢◌, ℕ, suc, ◌+◌, ◌*◌, ◌^◌, ◌<◌, ◌≤◌, false, refl, sym, ap, ap₂, ◌∙◌, subst, arith, List, length, ℤ, pos, ◌+ℤ◌, ◌*ℤ◌, w64}
use Rattle.std.specs.Prelude.{slice_index_or, slice_set}
use Rattle.std.specs.Int.{int_wrap}
use Rattle.std.proofs.lemmas.List.{length-set}
use Rattle.us_code.specs.declared.program.Dim.{Dim}
use Rattle.us_code.specs.declared.program.Dim.TheVariants as dim
use Rattle.us_code.specs.declared.program.Buf.TheVariants as buf
use Rattle.us_code.specs.Plain.{Number, Reg, Size, Add, Mul, End, Load, Set, When}
use Rattle.us_code.specs.Run.{Env, State, tick, set_reg, set_buf, value, size_of}
use Rattle.us_code_laws.specs.Does.{Does}
use Rattle.us_code_laws.proofs.Sequence.{put_same, put_other}
use Rattle.us_code_laws.proofs.Does.{do_end, do_set, do_load, do_for, do_when}
use Rattle.us_expr.specs.declared.queries.Axis.{Axis}
use Rattle.us_format.specs.Matrix.{Entry, Shape, indices}
use Rattle.us_format.specs.Queries.{schedule_extent}
use Rattle.us_format.specs.Reading.{limit}
use Rattle.us_gen.proofs.LevelRuns.{wrap_small}
use Rattle.us_query_loops.specs.Laws.{LoadsSchedule}
use Rattle.us_query_loops.specs.Loads.{lane_for, slot_for, rows_after}
use Rattle.us_gen_query.specs.declared.scheduling.ScheduleBuffers.{ScheduleBuffers}
use Rattle.us_gen_query.specs.Counting.{no_value, IsZeros}
use Rattle.us_gen_query.specs.Scheduling.{rows, HoldPlaces, TablesRows}
use Rattle.us_gen_query.proofs.CountsRun.{set_cell}
use Rattle.us_gen_query.proofs.LoadsLight.{place_fits, scheduled_with}

module _ (env : Env) (size : Dim) (n : ℕ) (b : ScheduleBuffers) (table : Dim) (extent t next : ℕ) (shape : Shape) (m : List Entry) (axis : Axis) (a : State) (hs : size_of env size ≡ indices axis shape) (few : n * schedule_extent m shape axis n ≤ limit) (he : env.dims extent ≡ schedule_extent m shape axis n) (ht : size_of env table ≡ n * schedule_extent m shape axis n) (places : HoldPlaces shape m axis n b a.bufs) (zeros : IsZeros (a.bufs t) (n * schedule_extent m shape axis n)) (lt_ : b.lane ≢ t) (st : b.slot ≢ t) (x : LoadsSchedule shape m axis n no_value) where
  abbrev E : ℕ
  E = schedule_extent m shape axis n

  abbrev lane : ℕ → ℕ
  lane k = lane_for no_value m axis n k

  abbrev slot : ℕ → ℕ
  slot k = slot_for no_value m axis n k

  -- after k indices
  record Tabling (k : ℕ) (u : State) : Type 0 where
    pub long : length (u.bufs t) ≡ n * schedule_extent m shape axis n
    pub cells : (y : ℕ) → y < n * schedule_extent m shape axis n → slice_index_or (u.bufs t) y (pos 0) ≡ pos (rows_after no_value m axis n (schedule_extent m shape axis n) k y)
    pub others : (c : ℕ) → c ≢ t → u.bufs c ≡ a.bufs c
    pub regs : (r : ℕ) → r < next → u.regs r ≡ a.regs r
    pub steps : u.steps ≡ a.steps + 1 + k * 5

  place_is : (regs : ℕ → ℤ) (k : ℕ) → k < indices axis shape → regs (next + 1) ≡ pos (lane k) → regs (next + 2) ≡ pos (slot k)
      → value env regs (Add (Mul (Reg (next + 1)) (Size (dim.Name extent))) (Reg (next + 2))) ≡ pos (lane k * E + slot k)
  place_is regs k lk hl hk =
      let fits : lane k * E + slot k < 2 ^ 62 = place_fits shape m axis n no_value x few k lk in
      let start : int_wrap w64 (regs (next + 1) *ℤ pos (env.dims extent)) ≡ pos (lane k * E) =
      ap₂ (λ (y : ℤ) (d : ℕ). int_wrap w64 (y *ℤ pos d)) hl he ∙ wrap_small (lane k * E) (omega (arith, fits)) in
      ap₂ (λ (y z : ℤ). int_wrap w64 (y +ℤ z)) start hk ∙ wrap_small (lane k * E + slot k) (omega (arith, fits))

  small_index : (k : ℕ) → k < indices axis shape → k < 2 ^ 62
  small_index k lk = omega (arith, lk, x.long, few)

  turn : (k : ℕ) (u : State) → k < indices axis shape → Tabling k u
      → Does env (Load (next + 1) (buf.New b.lane) (Reg next) (Load (next + 2) (buf.New b.slot) (Reg next) (When (Add (Mul (Reg (next + 1)) (Size (dim.Name extent))) (Reg (next + 2))) table (next + 3) (Set (buf.New t) (Reg (next + 3)) (Add (Reg next) (Number 1)) End) false End End))) (set_reg next (pos k) (tick 1 u)) (Tabling (suc k))
  turn k u lk p =
      let y = lane k * E + slot k in
      let u1 = set_reg next (pos k) (tick 1 u) in
      let u2 = set_reg (next + 1) (slice_index_or (u1.bufs b.lane) k (pos 0)) (tick 1 u1) in
      let u3 = set_reg (next + 2) (slice_index_or (u2.bufs b.slot) k (pos 0)) (tick 1 u2) in
      let u4 = set_reg (next + 3) (pos y) (tick 1 u3) in
      let u5 = set_buf t (slice_set (u4.bufs t) y (value env u4.regs (Add (Reg next) (Number 1)))) (tick 1 u4) in
      let lanes : u.bufs b.lane ≡ a.bufs b.lane = p.others b.lane lt_ in
      let slots : u.bufs b.slot ≡ a.bufs b.slot = p.others b.slot st in
      let is_lane : u2.regs (next + 1) ≡ pos (lane k) = put_same u1.regs (next + 1) _ ∙ (ap (λ (xs : List ℤ). slice_index_or xs k (pos 0)) lanes ∙ (places.lane k lk ∙ ap pos (sym (x.lane k lk)))) in
      let is_slot : u3.regs (next + 2) ≡ pos (slot k) = put_same u2.regs (next + 2) _ ∙ (ap (λ (xs : List ℤ). slice_index_or xs k (pos 0)) slots ∙ (places.slot k lk ∙ ap pos (sym (x.slot k lk)))) in
      let at : value env u3.regs (Add (Mul (Reg (next + 1)) (Size (dim.Name extent))) (Reg (next + 2))) ≡ pos y = place_is u3.regs k lk (put_other u2.regs (next + 2) _ (next + 1) (omega arith) ∙ is_lane) is_slot in
      let inside : y < n * E = x.inside k lk in
      let index2 : u2.regs next ≡ pos k = put_other u1.regs (next + 1) _ next (omega arith) ∙ put_same u.regs next _ in
      let index4 : u4.regs next ≡ pos k = put_other u3.regs (next + 3) _ next (omega arith) ∙ (put_other u2.regs (next + 2) _ next (omega arith) ∙ index2) in
      let one : k + 1 ≡ suc k = omega arith in
      let more : value env u4.regs (Add (Reg next) (Number 1)) ≡ pos (suc k) = ap (λ (z : ℤ). int_wrap w64 (z +ℤ pos 1)) index4 ∙ (wrap_small (k + 1) (let h = small_index k lk in omega (arith, h)) ∙ ap pos one) in
      let room : y < length (u.bufs t) = omega (arith, inside, p.long) in
      let now : u5.bufs t ≡ slice_set (u.bufs t) y (value env u4.regs (Add (Reg next) (Number 1))) = put_same u4.bufs t _ in
      let done : Tabling (suc k) u5 = record {
        long = ap (λ (xs : List ℤ). length xs) now ∙ (length-set (u.bufs t) y _ ∙ p.long);
        cells = λ c lc. ap (λ (xs : List ℤ). slice_index_or xs c (pos 0)) now ∙ set_cell (u.bufs t) (n * E) y (suc k) _ (rows_after no_value m axis n E k) room more p.cells c lc;
        others = λ c h. put_other u4.bufs t _ c (λ e. h (sym e)) ∙ p.others c h;
        regs = λ r h. put_other u3.regs (next + 3) _ r (omega (arith, h)) ∙ (put_other u2.regs (next + 2) _ r (omega (arith, h)) ∙ (put_other u1.regs (next + 1) _ r (omega (arith, h)) ∙ (put_other u.regs next _ r (omega (arith, h)) ∙ p.regs r h)));
        steps = omega (arith, p.steps);
      } in
      do_load env (next + 1) (buf.New b.lane) (Reg next) (Load (next + 2) (buf.New b.slot) (Reg next) (When (Add (Mul (Reg (next + 1)) (Size (dim.Name extent))) (Reg (next + 2))) table (next + 3) (Set (buf.New t) (Reg (next + 3)) (Add (Reg next) (Number 1)) End) false End End)) u1 (Tabling (suc k)) k (put_same u.regs next _)
      (subst (λ (xs : List ℤ). k < length xs) (sym lanes) (omega (arith, lk, places.lane_long)))
      (do_load env (next + 2) (buf.New b.slot) (Reg next) (When (Add (Mul (Reg (next + 1)) (Size (dim.Name extent))) (Reg (next + 2))) table (next + 3) (Set (buf.New t) (Reg (next + 3)) (Add (Reg next) (Number 1)) End) false End End) u2 (Tabling (suc k)) k index2
      (subst (λ (xs : List ℤ). k < length xs) (sym slots) (omega (arith, lk, places.slot_long)))
      (do_when env (Add (Mul (Reg (next + 1)) (Size (dim.Name extent))) (Reg (next + 2))) table (next + 3) (Set (buf.New t) (Reg (next + 3)) (Add (Reg next) (Number 1)) End) false End End u3 (Tabling (suc k)) y at (omega (arith, inside, ht))
      (do_set env t (Reg (next + 3)) (Add (Reg next) (Number 1)) End u4 (λ w. Does env End w (Tabling (suc k))) y (put_same u3.regs (next + 3) _) room
      (do_end env u5 (λ w. Does env End w (Tabling (suc k))) (do_end env u5 (Tabling (suc k)) done)))))

  rows_does : Does env (rows size b table extent t next) a (Tabling (indices axis shape))
  rows_does =
      do_for env next size (Load (next + 1) (buf.New b.lane) (Reg next) (Load (next + 2) (buf.New b.slot) (Reg next) (When (Add (Mul (Reg (next + 1)) (Size (dim.Name extent))) (Reg (next + 2))) table (next + 3) (Set (buf.New t) (Reg (next + 3)) (Add (Reg next) (Number 1)) End) false End End))) End a
      (Tabling (indices axis shape)) Tabling (record { long = zeros.long; cells = zeros.cells; others = λ c h. refl; regs = λ r h. refl; steps = omega arith }) (λ k u lk p. turn k u (omega (arith, lk, hs)) p)
      (λ u p. do_end env u (Tabling (indices axis shape)) (subst (λ (k : ℕ). Tabling k u) hs p))

pub tables_rows : TablesRows
tables_rows env size n b table extent t next shape m axis s small hs some few he ht places zeros lt_ st =
    let x : LoadsSchedule shape m axis n no_value = scheduled_with shape m axis n some small few in
    let d = rows_does env size n b table extent t next shape m axis s hs few he ht places zeros lt_ st x in
    let e = d.post in
    record { long = e.long; cells = λ y ly. e.cells y ly ∙ ap pos (x.rows y ly); others = e.others; regs = e.regs; steps = e.steps; stuck = d.calm }
