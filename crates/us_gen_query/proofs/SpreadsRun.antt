-- What the loops do that put each row or column into the first lane of least load.
use Rattle.std.proofs.Common.{◌≡◌, ◌≢◌, ℕ, suc, ◌+◌, ◌*◌, ◌^◌, ◌<◌, ◌≤◌, Bool, true, false, nat_lt, max, refl, sym, ap, ap₂, ◌∙◌, subst, arith, List, map, length, ℤ, pos, ◌+ℤ◌, w64, if◌then◌else◌}
use Rattle.std.specs.Prelude.{slice_index_or, slice_set}
use Rattle.std.specs.Int.{int_wrap}
use Rattle.std.proofs.lemmas.List.{length-set, length-map, get_or-set_same, get_or-map, map-set}
use lib.Signed.{lt_z}
use Rattle.us_code.specs.declared.program.Dim.{Dim}
use Rattle.us_code.specs.declared.program.Dim.TheVariants as dim
use Rattle.us_code.specs.declared.program.Buf.TheVariants as buf
use Rattle.us_code.specs.Plain.{Number, Reg, Add, Code, End, Load, Var, Put, Set, For, If, When}
use Rattle.us_code.specs.Run.{Env, State, tick, set_reg, set_buf, value, size_of}
use Rattle.us_code_laws.specs.Does.{Does}
use Rattle.us_code_laws.proofs.Sequence.{put_same, put_other}
use Rattle.us_code_laws.proofs.Does.{do_end, do_weaker, do_set, do_load, do_for, do_when, do_var, do_put, do_if_yes, do_if_no}
use Rattle.us_expr.specs.declared.queries.Axis.{Axis}
use Rattle.us_format.specs.Matrix.{Entry, Shape, indices}
use Rattle.us_format.specs.Queries.{weight}
use Rattle.us_gen.proofs.LevelRuns.{wrap_small}
use Rattle.us_query_loops.specs.Laws.{LoadsSchedule}
use Rattle.us_query_loops.specs.Loads.{low_at, best_at, loads_after, used_after, lane_for, slot_for, extent_after}
use Rattle.us_gen_query.specs.declared.scheduling.ScheduleBuffers.{ScheduleBuffers}
use Rattle.us_gen_query.specs.Counting.{no_value}
use Rattle.us_gen_query.specs.Scheduling.{lane_turn, least, slots, most, take_slot, spread_turn, spread}
use Rattle.us_gen_query.proofs.CountsRun.{Kept, keep_does}
use Rattle.us_gen_query.proofs.FillsRun.{set_more}
use Rattle.us_gen_query.proofs.LoadsLight.{loads_long, used_long}

-- ---- the first lane of least load

-- the lane l of load x was compared with the least load so far
record Compared (n l x y before : ℕ) (less : Bool) (s u : State) : Type 0 where
  pub best : u.regs (n + 2) ≡ pos (if less then l else before)
  pub low : u.regs (n + 3) ≡ pos (if less then x else y)
  pub regs : (r : ℕ) → r < n + 2 → u.regs r ≡ s.regs r
  pub bufs : u.bufs ≡ s.bufs
  pub steps : u.steps ≤ s.steps + 3

compares : (env : Env) (n l x y best : ℕ) (s : State) → s.regs (n + 5) ≡ pos x → s.regs (n + 3) ≡ pos y → s.regs (n + 4) ≡ pos l → s.regs (n + 2) ≡ pos best → (less : Bool) → nat_lt x y ≡ less
    → Does env (If (Reg (n + 5)) false (Reg (n + 3)) (Put (n + 3) (Reg (n + 5)) (Put (n + 2) (Reg (n + 4)) End)) false End End) s (Compared n l x y best less s)
compares env n l x y best s hx hy hl hb true e =
    let Q : State → Type 0 = Compared n l x y best true s in
    let s1 = set_reg (n + 3) (s.regs (n + 5)) (tick 1 (tick 1 s)) in
    let u = set_reg (n + 2) (s1.regs (n + 4)) (tick 1 s1) in
    let q : Compared n l x y best true s u = record {
      best = put_same s1.regs (n + 2) _ ∙ (put_other s.regs (n + 3) _ (n + 4) (omega arith) ∙ hl);
      low = put_other s1.regs (n + 2) _ (n + 3) (omega arith) ∙ (put_same s.regs (n + 3) _ ∙ hx);
      regs = λ r h. put_other s1.regs (n + 2) _ r (omega (arith, h)) ∙ put_other s.regs (n + 3) _ r (omega (arith, h));
      bufs = refl;
      steps = omega arith;
    } in
    do_if_yes env (Reg (n + 5)) false (Reg (n + 3)) (Put (n + 3) (Reg (n + 5)) (Put (n + 2) (Reg (n + 4)) End)) false End End s Q (ap₂ lt_z hx hy ∙ e)
    (do_put env (n + 3) (Reg (n + 5)) (Put (n + 2) (Reg (n + 4)) End) (tick 1 s) (λ u. Does env End u Q)
    (do_put env (n + 2) (Reg (n + 4)) End s1 (λ u. Does env End u Q) (do_end env u (λ u. Does env End u Q) (do_end env u Q q))))
compares env n l x y best s hx hy hl hb false e =
    let Q : State → Type 0 = Compared n l x y best false s in
    let u = tick 1 s in
    let q : Compared n l x y best false s u = record { best = hb; low = hy; regs = λ r h. refl; bufs = refl; steps = omega arith } in
    do_if_no env (Reg (n + 5)) false (Reg (n + 3)) (Put (n + 3) (Reg (n + 5)) (Put (n + 2) (Reg (n + 4)) End)) false End End s Q (ap₂ lt_z hx hy ∙ e)
    (do_end env u (λ u. Does env End u Q) (do_end env u Q q))

-- after l lanes
record Searching (n : ℕ) (loads : List ℕ) (l : ℕ) (a u : State) : Type 0 where
  pub best : u.regs (n + 2) ≡ pos (best_at no_value loads l)
  pub low : u.regs (n + 3) ≡ pos (low_at no_value loads l)
  pub regs : (r : ℕ) → r < n + 2 → u.regs r ≡ a.regs r
  pub bufs : u.bufs ≡ a.bufs
  pub steps : u.steps ≤ a.steps + 1 + l * 5

lane_turns : (env : Env) (w n : ℕ) (loads : List ℕ) (a : State) → a.bufs w ≡ map pos loads → (l : ℕ) (u : State) → l < length loads → Searching n loads l a u
    → Does env (lane_turn w n) (set_reg (n + 4) (pos l) (tick 1 u)) (Searching n loads (suc l) a)
lane_turns env w n loads a is l u lt i =
    let x = slice_index_or loads l 0 in
    let y = low_at no_value loads l in
    let u1 = set_reg (n + 4) (pos l) (tick 1 u) in
    let u2 = set_reg (n + 5) (slice_index_or (u1.bufs w) l (pos 0)) (tick 1 u1) in
    let now : u.bufs w ≡ map pos loads = ap (λ (f : ℕ → List ℤ). f w) i.bufs ∙ is in
    let room : l < length (u.bufs w) = subst (λ (xs : List ℤ). l < length xs) (sym now) (omega (arith, lt, length-map loads pos)) in
    let load : u2.regs (n + 5) ≡ pos x = put_same u1.regs (n + 5) _ ∙ (ap (λ (xs : List ℤ). slice_index_or xs l (pos 0)) now ∙ get_or-map pos loads l 0 (pos 0) lt) in
    let low : u2.regs (n + 3) ≡ pos y = put_other u1.regs (n + 5) _ (n + 3) (omega arith) ∙ (put_other u.regs (n + 4) _ (n + 3) (omega arith) ∙ i.low) in
    let best : u2.regs (n + 2) ≡ pos (best_at no_value loads l) = put_other u1.regs (n + 5) _ (n + 2) (omega arith) ∙ (put_other u.regs (n + 4) _ (n + 2) (omega arith) ∙ i.best) in
    let lane : u2.regs (n + 4) ≡ pos l = put_other u1.regs (n + 5) _ (n + 4) (omega arith) ∙ put_same u.regs (n + 4) _ in
    let done : (v : State) → Compared n l x y (best_at no_value loads l) (nat_lt x y) u2 v → Searching n loads (suc l) a v = λ v c. record {
      best = c.best;
      low = c.low;
      regs = λ r h. c.regs r h ∙ (put_other u1.regs (n + 5) _ r (omega (arith, h)) ∙ (put_other u.regs (n + 4) _ r (omega (arith, h)) ∙ i.regs r h));
      bufs = c.bufs ∙ i.bufs;
      steps = omega (arith, c.steps, i.steps);
    } in
    do_load env (n + 5) (buf.New w) (Reg (n + 4)) (If (Reg (n + 5)) false (Reg (n + 3)) (Put (n + 3) (Reg (n + 5)) (Put (n + 2) (Reg (n + 4)) End)) false End End) u1 (Searching n loads (suc l) a) l (put_same u.regs (n + 4) _) room
    (do_weaker env (If (Reg (n + 5)) false (Reg (n + 3)) (Put (n + 3) (Reg (n + 5)) (Put (n + 2) (Reg (n + 4)) End)) false End End) u2 (Compared n l x y (best_at no_value loads l) (nat_lt x y) u2) (Searching n loads (suc l) a) done
    (compares env n l x y (best_at no_value loads l) u2 load low lane best (nat_lt x y) refl))

record Found (n lanes : ℕ) (loads : List ℕ) (s u : State) : Type 0 where
  pub best : u.regs (n + 2) ≡ pos (best_at no_value loads lanes)
  pub low : u.regs (n + 3) ≡ pos (low_at no_value loads lanes)
  pub regs : (r : ℕ) → r < n + 2 → u.regs r ≡ s.regs r
  pub bufs : u.bufs ≡ s.bufs
  pub steps : u.steps ≤ s.steps + 3 + lanes * 5

search_does : (env : Env) (w lanes n : ℕ) (loads : List ℕ) (rest : Code) (s : State) (Q : State → Type 0) → length loads ≡ lanes → s.bufs w ≡ map pos loads
    → ((u : State) → Found n lanes loads s u → Does env rest u Q) → Does env (least w lanes n rest) s Q
search_does env w lanes n loads rest s Q long is end =
    let s1 = set_reg (n + 2) (pos 0) (tick 1 s) in
    let a = set_reg (n + 3) (pos no_value) (tick 1 s1) in
    let base : Searching n loads 0 a (tick 1 a) = record {
      best = put_other s1.regs (n + 3) _ (n + 2) (omega arith) ∙ put_same s.regs (n + 2) _;
      low = put_same s1.regs (n + 3) _;
      regs = λ r h. refl;
      bufs = refl;
      steps = omega arith;
    } in
    let found : (u : State) → Searching n loads lanes a u → Found n lanes loads s u = λ u i. record {
      best = i.best;
      low = i.low;
      regs = λ r h. i.regs r h ∙ (put_other s1.regs (n + 3) _ r (omega (arith, h)) ∙ put_other s.regs (n + 2) _ r (omega (arith, h)));
      bufs = i.bufs;
      steps = omega (arith, i.steps);
    } in
    do_var env (n + 2) (Number 0) (Var (n + 3) (Number no_value) (For (n + 4) (dim.Number lanes) (lane_turn w n) rest)) s Q
    (do_var env (n + 3) (Number no_value) (For (n + 4) (dim.Number lanes) (lane_turn w n) rest) s1 Q
    (do_for env (n + 4) (dim.Number lanes) (lane_turn w n) rest a Q (λ l u. Searching n loads l a u) base (λ l u lt i. lane_turns env w n loads a is l u (omega (arith, lt, long)) i)
    (λ u i. end u (found u i))))

-- ---- a slot of the lane

-- buffers of the lanes that are apart
pub record Separate (b : ScheduleBuffers) : Type 0 where
  pub lane_slot : b.lane ≢ b.slot
  pub lane_used : b.lane ≢ b.used
  pub lane_loads : b.lane ≢ b.loads
  pub slot_used : b.slot ≢ b.used
  pub slot_loads : b.slot ≢ b.loads
  pub used_loads : b.used ≢ b.loads
  pub lane_counts : b.lane ≢ b.counts
  pub slot_counts : b.slot ≢ b.counts
  pub used_counts : b.used ≢ b.counts
  pub loads_counts : b.loads ≢ b.counts
  pub lane_extent : b.lane ≢ b.extent
  pub slot_extent : b.slot ≢ b.extent
  pub used_extent : b.used ≢ b.extent
  pub loads_extent : b.loads ≢ b.extent

-- the index t, of weight w, is about to take the slot k of the lane l, whose load is low
record Taking (b : ScheduleBuffers) (n t l k low w most : ℕ) (s : State) : Type 0 where
  pub longest : s.regs n ≡ pos most
  pub index : s.regs (n + 1) ≡ pos t
  pub load : s.regs (n + 3) ≡ pos low
  pub weighs : s.regs (n + 6) ≡ pos w
  pub lane : s.regs (n + 7) ≡ pos l
  pub slot : slice_index_or (s.bufs b.used) l (pos 0) ≡ pos k
  pub lane_room : t < length (s.bufs b.lane)
  pub slot_room : t < length (s.bufs b.slot)
  pub used_room : l < length (s.bufs b.used)
  pub loads_room : l < length (s.bufs b.loads)
  pub short : k < 2 ^ 62
  pub light : low + w < 2 ^ 62

-- what it leaves of these buffers
record Took (b : ScheduleBuffers) (n t l k low w most : ℕ) (bufs : ℕ → List ℤ) (s u : State) : Type 0 where
  pub longest : u.regs n ≡ pos (max most (suc k))
  pub lane : u.bufs b.lane ≡ slice_set (bufs b.lane) t (pos l)
  pub slot : u.bufs b.slot ≡ slice_set (bufs b.slot) t (pos k)
  pub used : u.bufs b.used ≡ slice_set (bufs b.used) l (pos (suc k))
  pub loads : u.bufs b.loads ≡ slice_set (bufs b.loads) l (pos (low + w))
  pub others : (c : ℕ) → c ≢ b.lane → c ≢ b.slot → c ≢ b.used → c ≢ b.loads → u.bufs c ≡ bufs c
  pub regs : (r : ℕ) → r < n → u.regs r ≡ s.regs r
  pub steps : u.steps ≤ s.steps + 7

more_slots : (env : Env) (regs : ℕ → ℤ) (n k : ℕ) → regs (n + 8) ≡ pos k → k < 2 ^ 62 → value env regs (slots n) ≡ pos (suc k)
more_slots env regs n k h small =
    let one : k + 1 ≡ suc k = omega arith in
    ap (λ (z : ℤ). int_wrap w64 (z +ℤ pos 1)) h ∙ (wrap_small (k + 1) (omega (arith, small)) ∙ ap pos one)

takes : (env : Env) (b : ScheduleBuffers) (n t l k low w m : ℕ) (s : State) → Separate b → Taking b n t l k low w m s → Does env (take_slot b n) s (Took b n t l k low w m s.bufs s)
takes env b n t l k low w m s p x =
    let Q : State → Type 0 = Took b n t l k low w m s.bufs s in
    let s1 = set_reg (n + 8) (slice_index_or (s.bufs b.used) l (pos 0)) (tick 1 s) in
    let s2 = set_buf b.lane (slice_set (s1.bufs b.lane) t (s1.regs (n + 7))) (tick 1 s1) in
    let s3 = set_buf b.slot (slice_set (s2.bufs b.slot) t (s2.regs (n + 8))) (tick 1 s2) in
    let s4 = set_buf b.used (slice_set (s3.bufs b.used) l (value env s3.regs (slots n))) (tick 1 s3) in
    let s5 = set_buf b.loads (slice_set (s4.bufs b.loads) l (value env s4.regs (Add (Reg (n + 3)) (Reg (n + 6))))) (tick 1 s4) in
    let low_regs : (r : ℕ) → r < n + 8 → s1.regs r ≡ s.regs r = λ r h. put_other s.regs (n + 8) _ r (omega (arith, h)) in
    let free : s1.regs (n + 8) ≡ pos k = put_same s.regs (n + 8) _ ∙ x.slot in
    let index : s1.regs (n + 1) ≡ pos t = low_regs (n + 1) (omega arith) ∙ x.index in
    let lane : s1.regs (n + 7) ≡ pos l = low_regs (n + 7) (omega arith) ∙ x.lane in
    let more : value env s1.regs (slots n) ≡ pos (suc k) = more_slots env s1.regs n k free x.short in
    let sum : value env s1.regs (Add (Reg (n + 3)) (Reg (n + 6))) ≡ pos (low + w) =
    ap₂ (λ (y z : ℤ). int_wrap w64 (y +ℤ z)) (low_regs (n + 3) (omega arith) ∙ x.load) (low_regs (n + 6) (omega arith) ∙ x.weighs) ∙ wrap_small (low + w) (omega (arith, x.light)) in
    let slot2 : s2.bufs b.slot ≡ s.bufs b.slot = put_other s1.bufs b.lane _ b.slot p.lane_slot in
    let used3 : s3.bufs b.used ≡ s.bufs b.used = put_other s2.bufs b.slot _ b.used p.slot_used ∙ put_other s1.bufs b.lane _ b.used p.lane_used in
    let loads4 : s4.bufs b.loads ≡ s.bufs b.loads =
    put_other s3.bufs b.used _ b.loads p.used_loads ∙ (put_other s2.bufs b.slot _ b.loads p.slot_loads ∙ put_other s1.bufs b.lane _ b.loads p.lane_loads) in
    let done : (u : State) → Kept n (max m (suc k)) s5 u → Took b n t l k low w m s.bufs s u = λ u q. record {
      longest = q.most;
      lane = ap (λ (f : ℕ → List ℤ). f b.lane) q.bufs
          ∙ (put_other s4.bufs b.loads _ b.lane (λ e. p.lane_loads (sym e))
          ∙ (put_other s3.bufs b.used _ b.lane (λ e. p.lane_used (sym e))
          ∙ (put_other s2.bufs b.slot _ b.lane (λ e. p.lane_slot (sym e)) ∙ (put_same s1.bufs b.lane _ ∙ ap (slice_set (s.bufs b.lane) t) lane))));
      slot = ap (λ (f : ℕ → List ℤ). f b.slot) q.bufs
          ∙ (put_other s4.bufs b.loads _ b.slot (λ e. p.slot_loads (sym e))
          ∙ (put_other s3.bufs b.used _ b.slot (λ e. p.slot_used (sym e)) ∙ (put_same s2.bufs b.slot _ ∙ ap₂ (λ (xs : List ℤ) (v : ℤ). slice_set xs t v) slot2 free)));
      used = ap (λ (f : ℕ → List ℤ). f b.used) q.bufs
          ∙ (put_other s4.bufs b.loads _ b.used (λ e. p.used_loads (sym e)) ∙ (put_same s3.bufs b.used _ ∙ ap₂ (λ (xs : List ℤ) (v : ℤ). slice_set xs l v) used3 more));
      loads = ap (λ (f : ℕ → List ℤ). f b.loads) q.bufs ∙ (put_same s4.bufs b.loads _ ∙ ap₂ (λ (xs : List ℤ) (v : ℤ). slice_set xs l v) loads4 sum);
      others = λ c hl hs hu hw. ap (λ (f : ℕ → List ℤ). f c) q.bufs
          ∙ (put_other s4.bufs b.loads _ c (λ e. hw (sym e))
          ∙ (put_other s3.bufs b.used _ c (λ e. hu (sym e)) ∙ (put_other s2.bufs b.slot _ c (λ e. hs (sym e)) ∙ put_other s1.bufs b.lane _ c (λ e. hl (sym e)))));
      regs = λ r h. q.regs r (omega (arith, h)) ∙ low_regs r (omega (arith, h));
      steps = omega (arith, q.steps);
    } in
    do_load env (n + 8) (buf.New b.used) (Reg (n + 7)) (Set (buf.New b.lane) (Reg (n + 1)) (Reg (n + 7)) (Set (buf.New b.slot) (Reg (n + 1)) (Reg (n + 8)) (Set (buf.New b.used) (Reg (n + 7)) (slots n) (Set (buf.New b.loads) (Reg (n + 7)) (Add (Reg (n + 3)) (Reg (n + 6))) (most n))))) s Q l x.lane x.used_room
    (do_set env b.lane (Reg (n + 1)) (Reg (n + 7)) (Set (buf.New b.slot) (Reg (n + 1)) (Reg (n + 8)) (Set (buf.New b.used) (Reg (n + 7)) (slots n) (Set (buf.New b.loads) (Reg (n + 7)) (Add (Reg (n + 3)) (Reg (n + 6))) (most n)))) s1 Q t index x.lane_room
    (do_set env b.slot (Reg (n + 1)) (Reg (n + 8)) (Set (buf.New b.used) (Reg (n + 7)) (slots n) (Set (buf.New b.loads) (Reg (n + 7)) (Add (Reg (n + 3)) (Reg (n + 6))) (most n))) s2 Q t index (subst (λ (xs : List ℤ). t < length xs) (sym slot2) x.slot_room)
    (do_set env b.used (Reg (n + 7)) (slots n) (Set (buf.New b.loads) (Reg (n + 7)) (Add (Reg (n + 3)) (Reg (n + 6))) (most n)) s3 Q l lane (subst (λ (xs : List ℤ). l < length xs) (sym used3) x.used_room)
    (do_set env b.loads (Reg (n + 7)) (Add (Reg (n + 3)) (Reg (n + 6))) (most n) s4 Q l lane (subst (λ (xs : List ℤ). l < length xs) (sym loads4) x.loads_room)
    (do_weaker env (most n) s5 (Kept n (max m (suc k)) s5) Q done (keep_does env n (slots n) s5 m (suc k) (low_regs n (omega arith) ∙ x.longest) more))))))

-- ---- all indices

module _ (shape : Shape) (m : List Entry) (axis : Axis) (lanes : ℕ) (b : ScheduleBuffers) (n : ℕ) where
  abbrev A : ℕ
  A = indices axis shape

  abbrev loads_at : ℕ → List ℕ
  loads_at k = loads_after m axis lanes k

  abbrev used_at : ℕ → List ℕ
  used_at k = used_after m axis lanes k

  abbrev lane_of : ℕ → ℕ
  lane_of k = lane_for no_value m axis lanes k

  abbrev slot_of : ℕ → ℕ
  slot_of k = slot_for no_value m axis lanes k

  abbrev low_of : ℕ → ℕ
  low_of k = low_at no_value (loads_after m axis lanes k) lanes

  abbrev most_of : ℕ → ℕ
  most_of k = extent_after no_value m axis lanes k

  -- after t indices
  record Spreading (t : ℕ) (a u : State) : Type 0 where
    pub longest : u.regs n ≡ pos (extent_after no_value m axis lanes t)
    pub loads : u.bufs b.loads ≡ map pos (loads_after m axis lanes t)
    pub used : u.bufs b.used ≡ map pos (used_after m axis lanes t)
    pub lane_long : length (u.bufs b.lane) ≡ indices axis shape
    pub lane : (y : ℕ) → y < t → slice_index_or (u.bufs b.lane) y (pos 0) ≡ pos (lane_for no_value m axis lanes y)
    pub slot_long : length (u.bufs b.slot) ≡ indices axis shape
    pub slot : (y : ℕ) → y < t → slice_index_or (u.bufs b.slot) y (pos 0) ≡ pos (slot_for no_value m axis lanes y)
    pub others : (c : ℕ) → c ≢ b.lane → c ≢ b.slot → c ≢ b.used → c ≢ b.loads → u.bufs c ≡ a.bufs c
    pub regs : (r : ℕ) → r < n → u.regs r ≡ a.regs r
    pub steps : u.steps ≤ a.steps + 1 + t * (lanes * 5 + 13)

  -- the counts that are read
  pub record Weighed (bufs : ℕ → List ℤ) : Type 0 where
    pub long : length (bufs b.counts) ≡ indices axis shape
    pub cells : (y : ℕ) → y < indices axis shape → slice_index_or (bufs b.counts) y (pos 0) ≡ pos (weight m axis y)

  -- the numbers that are kept are small
  pub record Light : Type 0 where
    pub load : (k : ℕ) → k < indices axis shape → low_at no_value (loads_after m axis lanes k) lanes + weight m axis k < 2 ^ 62
    pub slot : (k : ℕ) → k < indices axis shape → slot_for no_value m axis lanes k < 2 ^ 62

  module _ (env : Env) (x : LoadsSchedule shape m axis lanes no_value) (light : Light) (p : Separate b) (a : State) (weighed : Weighed a.bufs) where
    took : (t : ℕ) (u v v2 w : State) → t < A → Spreading t a u → Found n lanes (loads_at t) (set_reg (n + 1) (pos t) (tick 1 u)) v → v2.steps ≡ v.steps + 2 → ((r : ℕ) → r < n → v2.regs r ≡ v.regs r)
        → Took b n t (lane_of t) (slot_of t) (low_of t) (weight m axis t) (most_of t) u.bufs v2 w → Spreading (suc t) a w
    took t u v v2 w lt i f hs hr k =
        let u1 = set_reg (n + 1) (pos t) (tick 1 u) in
        let lane_room : t < length (u.bufs b.lane) = omega (arith, lt, i.lane_long) in
        let slot_room : t < length (u.bufs b.slot) = omega (arith, lt, i.slot_long) in
        record {
          longest = k.longest;
          loads = k.loads
              ∙ (ap (λ (xs : List ℤ). slice_set xs (lane_of t) (pos (low_of t + weight m axis t))) i.loads
              ∙ (sym (map-set pos (loads_at t) (lane_of t) (low_of t + weight m axis t)) ∙ ap (map pos) (sym (x.loads t lt))));
          used = k.used
              ∙ (ap (λ (xs : List ℤ). slice_set xs (lane_of t) (pos (suc (slot_of t)))) i.used
              ∙ (sym (map-set pos (used_at t) (lane_of t) (suc (slot_of t))) ∙ ap (map pos) (sym (x.slots t lt))));
          lane_long = ap (λ (xs : List ℤ). length xs) k.lane ∙ (length-set (u.bufs b.lane) t _ ∙ i.lane_long);
          lane = λ y ly. ap (λ (xs : List ℤ). slice_index_or xs y (pos 0)) k.lane ∙ set_more (u.bufs b.lane) (λ y. pos (lane_of y)) t _ lane_room refl i.lane y ly;
          slot_long = ap (λ (xs : List ℤ). length xs) k.slot ∙ (length-set (u.bufs b.slot) t _ ∙ i.slot_long);
          slot = λ y ly. ap (λ (xs : List ℤ). slice_index_or xs y (pos 0)) k.slot ∙ set_more (u.bufs b.slot) (λ y. pos (slot_of y)) t _ slot_room refl i.slot y ly;
          others = λ c hl hk hu hw. k.others c hl hk hu hw ∙ i.others c hl hk hu hw;
          regs = λ r h. k.regs r h ∙ (hr r h ∙ (f.regs r (omega (arith, h)) ∙ (put_other u.regs (n + 1) _ r (omega (arith, h)) ∙ i.regs r h)));
          steps = omega (arith, k.steps, hs, f.steps, i.steps);
        }

    -- behind the search
    placed : (t : ℕ) (u v : State) → t < A → Spreading t a u → Found n lanes (loads_at t) (set_reg (n + 1) (pos t) (tick 1 u)) v
        → Does env (Load (n + 6) (buf.New b.counts) (Reg (n + 1)) (When (Reg (n + 2)) (dim.Number lanes) (n + 7) (take_slot b n) false End End)) v (Spreading (suc t) a)
    placed t u v lt i f =
        let Q : State → Type 0 = Spreading (suc t) a in
        let l = lane_of t in
        let k = slot_of t in
        let low = low_of t in
        let weight_t = weight m axis t in
        let v1 = set_reg (n + 6) (slice_index_or (v.bufs b.counts) t (pos 0)) (tick 1 v) in
        let v2 = set_reg (n + 7) (pos l) (tick 1 v1) in
        let counts : v.bufs b.counts ≡ a.bufs b.counts =
        ap (λ (g : ℕ → List ℤ). g b.counts) f.bufs ∙ i.others b.counts (λ e. p.lane_counts (sym e)) (λ e. p.slot_counts (sym e)) (λ e. p.used_counts (sym e)) (λ e. p.loads_counts (sym e)) in
        let loads_now : v.bufs b.loads ≡ map pos (loads_at t) = ap (λ (g : ℕ → List ℤ). g b.loads) f.bufs ∙ i.loads in
        let used_now : v.bufs b.used ≡ map pos (used_at t) = ap (λ (g : ℕ → List ℤ). g b.used) f.bufs ∙ i.used in
        let below : l < lanes = x.lane_below t lt in
        let used_room : l < length (used_at t) = omega (arith, below, used_long shape m axis lanes no_value x t (omega (arith, lt))) in
        let loads_room : l < length (loads_at t) = omega (arith, below, loads_long shape m axis lanes no_value x t (omega (arith, lt))) in
        let before : (r : ℕ) → r < n + 6 → v2.regs r ≡ v.regs r = λ r h. put_other v1.regs (n + 7) _ r (omega (arith, h)) ∙ put_other v.regs (n + 6) _ r (omega (arith, h)) in
        let index : v.regs (n + 1) ≡ pos t = f.regs (n + 1) (omega arith) ∙ put_same u.regs (n + 1) _ in
        let taking : Taking b n t l k low weight_t (most_of t) v2 = record {
          longest = before n (omega arith) ∙ (f.regs n (omega arith) ∙ (put_other u.regs (n + 1) _ n (omega arith) ∙ i.longest));
          index = before (n + 1) (omega arith) ∙ index;
          load = before (n + 3) (omega arith) ∙ f.low;
          weighs = put_other v1.regs (n + 7) _ (n + 6) (omega arith) ∙ (put_same v.regs (n + 6) _ ∙ (ap (λ (xs : List ℤ). slice_index_or xs t (pos 0)) counts ∙ weighed.cells t lt));
          lane = put_same v1.regs (n + 7) _;
          slot = ap (λ (xs : List ℤ). slice_index_or xs l (pos 0)) used_now ∙ get_or-map pos (used_at t) l 0 (pos 0) used_room;
          lane_room = ap_room (ap (λ (g : ℕ → List ℤ). g b.lane) f.bufs) (omega (arith, lt, i.lane_long));
          slot_room = ap_room (ap (λ (g : ℕ → List ℤ). g b.slot) f.bufs) (omega (arith, lt, i.slot_long));
          used_room = ap_room used_now (omega (arith, used_room, length-map (used_at t) pos));
          loads_room = ap_room loads_now (omega (arith, loads_room, length-map (loads_at t) pos));
          short = light.slot t lt;
          light = light.load t lt;
        } in
        let took0 : Does env (take_slot b n) v2 (Took b n t l k low weight_t (most_of t) v.bufs v2) = takes env b n t l k low weight_t (most_of t) v2 p taking in
        let took1 : Does env (take_slot b n) v2 (Took b n t l k low weight_t (most_of t) u.bufs v2) =
        subst (λ (g : ℕ → List ℤ). Does env (take_slot b n) v2 (Took b n t l k low weight_t (most_of t) g v2)) f.bufs took0 in
        do_load env (n + 6) (buf.New b.counts) (Reg (n + 1)) (When (Reg (n + 2)) (dim.Number lanes) (n + 7) (take_slot b n) false End End) v Q t index (ap_room counts (omega (arith, lt, weighed.long)))
        (do_when env (Reg (n + 2)) (dim.Number lanes) (n + 7) (take_slot b n) false End End v1 Q l (put_other v.regs (n + 6) _ (n + 2) (omega arith) ∙ f.best) below
        (do_weaker env (take_slot b n) v2 (Took b n t l k low weight_t (most_of t) u.bufs v2) (λ w. Does env End w Q)
        (λ w q. do_end env w Q (took t u v v2 w lt i f (omega arith) (λ r h. before r (omega (arith, h))) q)) took1))
      where
        ap_room : {xs ys : List ℤ} {c : ℕ} → xs ≡ ys → c < length ys → c < length xs
        ap_room {xs} {ys} {c} e h = subst (λ (zs : List ℤ). c < length zs) (sym e) h

    spread_turns : (t : ℕ) (u : State) → t < A → Spreading t a u → Does env (spread_turn b lanes n) (set_reg (n + 1) (pos t) (tick 1 u)) (Spreading (suc t) a)
    spread_turns t u lt i =
        search_does env b.loads lanes n (loads_at t) (Load (n + 6) (buf.New b.counts) (Reg (n + 1)) (When (Reg (n + 2)) (dim.Number lanes) (n + 7) (take_slot b n) false End End)) (set_reg (n + 1) (pos t) (tick 1 u)) (Spreading (suc t) a)
        (loads_long shape m axis lanes no_value x t (omega (arith, lt))) i.loads (λ v f. placed t u v lt i f)

  -- in the end
  pub record Spread (s u : State) : Type 0 where
    pub lane_long : length (u.bufs b.lane) ≡ indices axis shape
    pub lane : (y : ℕ) → y < indices axis shape → slice_index_or (u.bufs b.lane) y (pos 0) ≡ pos (lane_for no_value m axis lanes y)
    pub slot_long : length (u.bufs b.slot) ≡ indices axis shape
    pub slot : (y : ℕ) → y < indices axis shape → slice_index_or (u.bufs b.slot) y (pos 0) ≡ pos (slot_for no_value m axis lanes y)
    pub wide : length (u.bufs b.extent) ≡ 1
    pub extent : slice_index_or (u.bufs b.extent) 0 (pos 0) ≡ pos (extent_after no_value m axis lanes (indices axis shape))
    pub others : (c : ℕ) → c ≢ b.lane → c ≢ b.slot → c ≢ b.used → c ≢ b.loads → c ≢ b.extent → u.bufs c ≡ s.bufs c
    pub regs : (r : ℕ) → r < n → u.regs r ≡ s.regs r
    pub steps : u.steps ≤ s.steps + 3 + indices axis shape * (lanes * 5 + 13)

  -- what it begins with
  pub record Begun (bufs : ℕ → List ℤ) : Type 0 where
    pub weighed : Weighed bufs
    pub loads : bufs b.loads ≡ map pos (loads_after m axis lanes 0)
    pub used : bufs b.used ≡ map pos (used_after m axis lanes 0)
    pub lane : length (bufs b.lane) ≡ indices axis shape
    pub slot : length (bufs b.slot) ≡ indices axis shape
    pub extent : length (bufs b.extent) ≡ 1

  pub spread_does : (env : Env) (size : Dim) (s : State) → size_of env size ≡ indices axis shape → LoadsSchedule shape m axis lanes no_value → Light → Separate b → Begun s.bufs → Does env (spread size b lanes n) s (Spread s)
  spread_does env size s hs x light p begun =
      let a = set_reg n (pos 0) (tick 1 s) in
      let base : Spreading 0 a (tick 1 a) = record {
        longest = put_same s.regs n _;
        loads = begun.loads;
        used = begun.used;
        lane_long = begun.lane;
        lane = λ y ly. absurd (omega (arith, ly));
        slot_long = begun.slot;
        slot = λ y ly. absurd (omega (arith, ly));
        others = λ c hl hk hu hw. refl;
        regs = λ r h. refl;
        steps = omega arith;
      } in
      do_var env n (Number 0) (For (n + 1) size (spread_turn b lanes n) (Set (buf.New b.extent) (Number 0) (Reg n) End)) s (Spread s)
      (do_for env (n + 1) size (spread_turn b lanes n) (Set (buf.New b.extent) (Number 0) (Reg n) End) a (Spread s) (λ t u. Spreading t a u) base
      (λ t u lt i. spread_turns env x light p a begun.weighed t u (omega (arith, lt, hs)) i) (λ u i. last u (subst (λ (t : ℕ). Spreading t a u) hs i)))
    where
      last : (u : State) → Spreading (indices axis shape) (set_reg n (pos 0) (tick 1 s)) u → Does env (Set (buf.New b.extent) (Number 0) (Reg n) End) u (Spread s)
      last u i =
          let wide : length (u.bufs b.extent) ≡ 1 =
          ap (λ (xs : List ℤ). length xs) (i.others b.extent (λ e. p.lane_extent (sym e)) (λ e. p.slot_extent (sym e)) (λ e. p.used_extent (sym e)) (λ e. p.loads_extent (sym e))) ∙ begun.extent in
          let u1 = set_buf b.extent (slice_set (u.bufs b.extent) 0 (u.regs n)) (tick 1 u) in
          let now : u1.bufs b.extent ≡ slice_set (u.bufs b.extent) 0 (u.regs n) = put_same u.bufs b.extent _ in
          let lane1 : u1.bufs b.lane ≡ u.bufs b.lane = put_other u.bufs b.extent _ b.lane (λ e. p.lane_extent (sym e)) in
          let slot1 : u1.bufs b.slot ≡ u.bufs b.slot = put_other u.bufs b.extent _ b.slot (λ e. p.slot_extent (sym e)) in
          do_set env b.extent (Number 0) (Reg n) End u (Spread s) 0 refl (omega (arith, wide))
          (do_end env u1 (Spread s) record {
            lane_long = ap (λ (xs : List ℤ). length xs) lane1 ∙ i.lane_long;
            lane = λ y ly. ap (λ (xs : List ℤ). slice_index_or xs y (pos 0)) lane1 ∙ i.lane y ly;
            slot_long = ap (λ (xs : List ℤ). length xs) slot1 ∙ i.slot_long;
            slot = λ y ly. ap (λ (xs : List ℤ). slice_index_or xs y (pos 0)) slot1 ∙ i.slot y ly;
            wide = ap (λ (xs : List ℤ). length xs) now ∙ (length-set (u.bufs b.extent) 0 _ ∙ wide);
            extent = ap (λ (xs : List ℤ). slice_index_or xs 0 (pos 0)) now ∙ (get_or-set_same (u.bufs b.extent) 0 _ (pos 0) (omega (arith, wide)) ∙ i.longest);
            others = λ c hl hk hu hw he. put_other u.bufs b.extent _ c (λ e. he (sym e)) ∙ i.others c hl hk hu hw;
            regs = λ r h. i.regs r h ∙ put_other s.regs n _ r (omega (arith, h));
            steps = omega (arith, i.steps);
          })
