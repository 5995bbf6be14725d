-- What the loops that spread the rows or the columns over lanes do.
use Rattle.std.proofs.Common.{◌≡◌, ◌≢◌, ℕ, suc, ◌+◌, ◌*◌, ◌^◌, ◌<◌, ◌≤◌, Bool, true, false, nat_eq, refl, sym, ap, ◌∙◌, subst, arith, List, ◌∷◌, map, length, replicate, ℤ, pos, ◌+ℤ◌, w64, if◌then◌else◌}
use Rattle.std.specs.Prelude.{slice_index_or, slice_set}
use Rattle.std.specs.Int.{int_wrap}
use Rattle.std.specs.List.Sorted.{IsPermutation}
use Rattle.std.proofs.lemmas.Bool.Decides.{nat_tests}
use Rattle.std.proofs.lemmas.List.{length-set, length-map, length-replicate, get_or-replicate, get_or-set_same, get_or-set_other, get_or-map, get_or_default, same_lists}
use Rattle.std.proofs.lemmas.List.Sorted.{length_permutation}
use Rattle.us_code.specs.declared.program.Dim.{Dim}
use Rattle.us_code.specs.declared.program.Buf.TheVariants as buf
use Rattle.us_code.specs.declared.pieces.Columns.{Columns}
use Rattle.us_code.specs.Plain.{Number, Reg, Add, Code, End, Load, Set, ◌+++◌}
use Rattle.us_code.specs.Run.{Env, State, tick, set_reg, set_buf, size_of}
use Rattle.us_code_laws.specs.Does.{Does}
use Rattle.us_code_laws.proofs.Sequence.{put_same, put_other}
use Rattle.us_code_laws.proofs.Does.{do_end, do_append, do_weaker, do_set, do_load}
use Rattle.us_expr.specs.declared.queries.Axis.{Axis}
use Rattle.us_format.specs.Matrix.{Entry, Shape, index_at, indices}
use Rattle.us_format.specs.Queries.{lane_at, slot_at, schedule_extent}
use Rattle.us_format.specs.Reading.{limit}
use Rattle.us_gen.proofs.LevelRuns.{wrap_small}
use Rattle.us_query_loops.specs.Laws.{LoadsSchedule}
use Rattle.us_query_loops.specs.Sorted.{entry_at}
use Rattle.us_gen_query.specs.declared.scheduling.ScheduleBuffers.{ScheduleBuffers}
use Rattle.us_gen_query.specs.Counting.{no_value, IsZeros}
use Rattle.us_gen_query.specs.Reordering.{at_index, passed, AreIndices}
use Rattle.us_gen_query.specs.Scheduling.{one_more, both_looked_up, spread, schedule, written, IsNone, AreApart, AreReady, HoldPlaces, Schedules}
use Rattle.us_gen_query.proofs.AtIndex.{Passing, Inner, at_index_does}
use Rattle.us_gen_query.proofs.FillsRun.{set_more}
use Rattle.us_gen_query.proofs.LoadsLight.{passed_are_weights, load_fits, slot_fits, scheduled_with}
use Rattle.us_gen_query.proofs.ReordersRun.{passed_few}
use Rattle.us_gen_query.proofs.SpreadsRun.{Separate, Light, Spread, Begun, spread_does}

-- ---- counts

-- the counts after t entries, where the other buffers are as they were
record Up (a : State) (m size i b : ℕ) (index : ℕ → ℕ) (t : ℕ) (bufs : ℕ → List ℤ) : Type 0 where
  pub given : AreIndices (bufs i) m size index
  pub long : length (bufs b) ≡ size
  pub cells : (y : ℕ) → y < size → slice_index_or (bufs b) y (pos 0) ≡ pos (passed index t y)
  pub others : (c : ℕ) → c ≢ b → bufs c ≡ a.bufs c

up_cell : (xs : List ℤ) (size t : ℕ) (index : ℕ → ℕ) (v : ℤ) → index t < length xs → v ≡ pos (suc (passed index t (index t))) → ((y : ℕ) → y < size → slice_index_or xs y (pos 0) ≡ pos (passed index t y))
    → (y : ℕ) → y < size → slice_index_or (slice_set xs (index t) v) y (pos 0) ≡ pos (passed index (suc t) y)
up_cell xs size t index v lt is old y ly = case (nat_eq (index t) y) refl
  where
    case : (q : Bool) → nat_eq (index t) y ≡ q → slice_index_or (slice_set xs (index t) v) y (pos 0) ≡ pos (if q then suc (passed index t y) else passed index t y)
    case true e = let at : index t ≡ y = grind (arith, nat_tests) in subst (λ (x : ℕ). slice_index_or (slice_set xs (index t) v) x (pos 0) ≡ pos (suc (passed index t x))) at (get_or-set_same xs (index t) v (pos 0) lt ∙ is)
    case false e = let ne : y ≢ index t = grind (arith, nat_tests) in get_or-set_other xs (index t) y v (pos 0) ne ∙ old y ly

up_turns : (env : Env) (a : State) (m size i b n : ℕ) (index : ℕ → ℕ) → m < 2 ^ 62 → i ≢ b → (t : ℕ) → t < m → Inner env n 2 (Up a m size i b index) (one_more b n) t (index t)
up_turns env a m size i b n index small ib t lt s at hg d =
    let g = index t in
    let Q : State → Type 0 = λ u. Up a m size i b index (suc t) u.bufs × ((r : ℕ) → r < n → u.regs r ≡ s.regs r) × (u.steps ≡ s.steps + 2) in
    let lg : g < size = d.given.below t lt in
    let room : g < length (s.bufs b) = omega (arith, lg, d.long) in
    let s1 = set_reg (n + 3) (slice_index_or (s.bufs b) g (pos 0)) (tick 1 s) in
    let v = int_wrap w64 (s1.regs (n + 3) +ℤ pos 1) in
    let s2 = set_buf b (slice_set (s1.bufs b) g v) (tick 1 s1) in
    let few = passed_few index t g in
    let one : passed index t g + 1 ≡ suc (passed index t g) = omega arith in
    let is : v ≡ pos (suc (passed index t g)) = ap (λ (z : ℤ). int_wrap w64 (z +ℤ pos 1)) (put_same s.regs (n + 3) _ ∙ d.cells g lg) ∙ (wrap_small (passed index t g + 1) (omega (arith, few, lt, small)) ∙ ap pos one) in
    let now : s2.bufs b ≡ slice_set (s.bufs b) g v = put_same s1.bufs b _ in
    let same : s2.bufs i ≡ s.bufs i = put_other s1.bufs b _ i (λ q. ib (sym q)) in
    let up : Up a m size i b index (suc t) s2.bufs = record {
      given = subst (λ (xs : List ℤ). AreIndices xs m size index) (sym same) d.given;
      long = ap (λ (xs : List ℤ). length xs) now ∙ (length-set (s.bufs b) g v ∙ d.long);
      cells = λ y ly. ap (λ (xs : List ℤ). slice_index_or xs y (pos 0)) now ∙ up_cell (s.bufs b) size t index v room is d.cells y ly;
      others = λ c h. put_other s1.bufs b _ c (λ q. h (sym q)) ∙ d.others c h;
    } in
    let low : (r : ℕ) → r < n → s2.regs r ≡ s.regs r = λ r h. put_other s.regs (n + 3) _ r (omega (arith, h)) in
    let cost : s2.steps ≡ s.steps + 2 = omega arith in
    do_load env (n + 3) (buf.New b) (Reg (n + 2)) (Set (buf.New b) (Reg (n + 2)) (Add (Reg (n + 3)) (Number 1)) End) s Q g hg room
    (do_set env b (Reg (n + 2)) (Add (Reg (n + 3)) (Number 1)) End s1 Q g (put_other s.regs (n + 3) _ (n + 2) (omega arith) ∙ hg) room (do_end env s2 Q (up, low, cost)))

-- ---- the lane and the slot of each entry's index

record Looking (a : State) (m size i : ℕ) (b : ScheduleBuffers) (index L S : ℕ → ℕ) (t : ℕ) (bufs : ℕ → List ℤ) : Type 0 where
  pub given : AreIndices (bufs i) m size index
  pub lane_long : length (bufs b.lane) ≡ size
  pub lane : (y : ℕ) → y < size → slice_index_or (bufs b.lane) y (pos 0) ≡ pos (L y)
  pub slot_long : length (bufs b.slot) ≡ size
  pub slot : (y : ℕ) → y < size → slice_index_or (bufs b.slot) y (pos 0) ≡ pos (S y)
  pub lanes_long : length (bufs b.lanes) ≡ m
  pub lanes : (y : ℕ) → y < t → slice_index_or (bufs b.lanes) y (pos 0) ≡ pos (L (index y))
  pub slots_long : length (bufs b.slots) ≡ m
  pub slots : (y : ℕ) → y < t → slice_index_or (bufs b.slots) y (pos 0) ≡ pos (S (index y))
  pub others : (c : ℕ) → c ≢ b.lanes → c ≢ b.slots → bufs c ≡ a.bufs c

-- the buffers that are read aren't written, and the two that are written are apart
record Aside (i : ℕ) (b : ScheduleBuffers) : Type 0 where
  pub index_lanes : i ≢ b.lanes
  pub index_slots : i ≢ b.slots
  pub lane_lanes : b.lane ≢ b.lanes
  pub lane_slots : b.lane ≢ b.slots
  pub slot_lanes : b.slot ≢ b.lanes
  pub slot_slots : b.slot ≢ b.slots
  pub lanes_slots : b.lanes ≢ b.slots

look_turns : (env : Env) (a : State) (m size i : ℕ) (b : ScheduleBuffers) (n : ℕ) (index L S : ℕ → ℕ) → Aside i b → (t : ℕ) → t < m → Inner env n 4 (Looking a m size i b index L S) (both_looked_up b n) t (index t)
look_turns env a m size i b n index L S p t lt s at hg d =
    let g = index t in
    let Q : State → Type 0 = λ u. Looking a m size i b index L S (suc t) u.bufs × ((r : ℕ) → r < n → u.regs r ≡ s.regs r) × (u.steps ≡ s.steps + 4) in
    let lg : g < size = d.given.below t lt in
    let s1 = set_reg (n + 3) (slice_index_or (s.bufs b.lane) g (pos 0)) (tick 1 s) in
    let s2 = set_buf b.lanes (slice_set (s1.bufs b.lanes) t (s1.regs (n + 3))) (tick 1 s1) in
    let s3 = set_reg (n + 4) (slice_index_or (s2.bufs b.slot) g (pos 0)) (tick 1 s2) in
    let s4 = set_buf b.slots (slice_set (s3.bufs b.slots) t (s3.regs (n + 4))) (tick 1 s3) in
    let slot2 : s2.bufs b.slot ≡ s.bufs b.slot = put_other s1.bufs b.lanes _ b.slot (λ e. p.slot_lanes (sym e)) in
    let slots2 : s2.bufs b.slots ≡ s.bufs b.slots = put_other s1.bufs b.lanes _ b.slots p.lanes_slots in
    let is_lane : s1.regs (n + 3) ≡ pos (L g) = put_same s.regs (n + 3) _ ∙ d.lane g lg in
    let is_slot : s3.regs (n + 4) ≡ pos (S g) = put_same s2.regs (n + 4) _ ∙ (ap (λ (xs : List ℤ). slice_index_or xs g (pos 0)) slot2 ∙ d.slot g lg) in
    let lanes4 : s4.bufs b.lanes ≡ slice_set (s.bufs b.lanes) t (s1.regs (n + 3)) = put_other s3.bufs b.slots _ b.lanes (λ e. p.lanes_slots (sym e)) ∙ put_same s1.bufs b.lanes _ in
    let slots4 : s4.bufs b.slots ≡ slice_set (s.bufs b.slots) t (s3.regs (n + 4)) = put_same s3.bufs b.slots _ ∙ ap (λ (xs : List ℤ). slice_set xs t (s3.regs (n + 4))) slots2 in
    let same : (c : ℕ) → c ≢ b.lanes → c ≢ b.slots → s4.bufs c ≡ s.bufs c = λ c hl hs. put_other s3.bufs b.slots _ c (λ e. hs (sym e)) ∙ put_other s1.bufs b.lanes _ c (λ e. hl (sym e)) in
    let lanes_room : t < length (s.bufs b.lanes) = omega (arith, lt, d.lanes_long) in
    let slots_room : t < length (s.bufs b.slots) = omega (arith, lt, d.slots_long) in
    let looking : Looking a m size i b index L S (suc t) s4.bufs = record {
      given = subst (λ (xs : List ℤ). AreIndices xs m size index) (sym (same i p.index_lanes p.index_slots)) d.given;
      lane_long = ap (λ (xs : List ℤ). length xs) (same b.lane p.lane_lanes p.lane_slots) ∙ d.lane_long;
      lane = λ y ly. ap (λ (xs : List ℤ). slice_index_or xs y (pos 0)) (same b.lane p.lane_lanes p.lane_slots) ∙ d.lane y ly;
      slot_long = ap (λ (xs : List ℤ). length xs) (same b.slot p.slot_lanes p.slot_slots) ∙ d.slot_long;
      slot = λ y ly. ap (λ (xs : List ℤ). slice_index_or xs y (pos 0)) (same b.slot p.slot_lanes p.slot_slots) ∙ d.slot y ly;
      lanes_long = ap (λ (xs : List ℤ). length xs) lanes4 ∙ (length-set (s.bufs b.lanes) t _ ∙ d.lanes_long);
      lanes = λ y ly. ap (λ (xs : List ℤ). slice_index_or xs y (pos 0)) lanes4 ∙ set_more (s.bufs b.lanes) (λ y. pos (L (index y))) t _ lanes_room is_lane d.lanes y ly;
      slots_long = ap (λ (xs : List ℤ). length xs) slots4 ∙ (length-set (s.bufs b.slots) t _ ∙ d.slots_long);
      slots = λ y ly. ap (λ (xs : List ℤ). slice_index_or xs y (pos 0)) slots4 ∙ set_more (s.bufs b.slots) (λ y. pos (S (index y))) t _ slots_room is_slot d.slots y ly;
      others = λ c hl hs. same c hl hs ∙ d.others c hl hs;
    } in
    let keeps : (r : ℕ) → r < n + 3 → s4.regs r ≡ s.regs r = λ r h. put_other s2.regs (n + 4) _ r (omega (arith, h)) ∙ put_other s.regs (n + 3) _ r (omega (arith, h)) in
    let low : (r : ℕ) → r < n → s4.regs r ≡ s.regs r = λ r h. keeps r (omega (arith, h)) in
    let cost : s4.steps ≡ s.steps + 4 = omega arith in
    let lane_room : g < length (s.bufs b.lane) = omega (arith, lg, d.lane_long) in
    let slot_room : g < length (s2.bufs b.slot) = subst (λ (xs : List ℤ). g < length xs) (sym slot2) (omega (arith, lg, d.slot_long)) in
    do_load env (n + 3) (buf.New b.lane) (Reg (n + 2)) (Set (buf.New b.lanes) (Reg n) (Reg (n + 3)) (Load (n + 4) (buf.New b.slot) (Reg (n + 2)) (Set (buf.New b.slots) (Reg n) (Reg (n + 4)) End))) s Q g hg lane_room
    (do_set env b.lanes (Reg n) (Reg (n + 3)) (Load (n + 4) (buf.New b.slot) (Reg (n + 2)) (Set (buf.New b.slots) (Reg n) (Reg (n + 4)) End)) s1 Q t (put_other s.regs (n + 3) _ n (omega arith) ∙ at) lanes_room
    (do_load env (n + 4) (buf.New b.slot) (Reg (n + 2)) (Set (buf.New b.slots) (Reg n) (Reg (n + 4)) End) s2 Q g (put_other s.regs (n + 3) _ (n + 2) (omega arith) ∙ hg) slot_room
    (do_set env b.slots (Reg n) (Reg (n + 4)) End s3 Q t (keeps n (omega arith) ∙ at) (subst (λ (xs : List ℤ). t < length xs) (sym slots2) slots_room) (do_end env s4 Q (looking, low, cost)))))

-- ---- the buffers are apart

record Counts (i : ℕ) (b : ScheduleBuffers) : Type 0 where
  pub index : i ≢ b.counts
  pub index_lane : i ≢ b.lane
  pub index_slot : i ≢ b.slot
  pub index_loads : i ≢ b.loads
  pub index_used : i ≢ b.used
  pub index_extent : i ≢ b.extent
  pub counts_lanes : b.counts ≢ b.lanes
  pub counts_slots : b.counts ≢ b.slots
  pub counts_extent : b.counts ≢ b.extent
  pub loads_lanes : b.loads ≢ b.lanes
  pub loads_slots : b.loads ≢ b.slots
  pub used_lanes : b.used ≢ b.lanes
  pub used_slots : b.used ≢ b.slots
  pub extent_lanes : b.extent ≢ b.lanes
  pub extent_slots : b.extent ≢ b.slots

-- by their places in the list: the column, then counts, lane, slot, loads, used, extent, lanes, slots
separate : (i : ℕ) (b : ScheduleBuffers) → AreApart (i ∷ written b) → Separate b
separate i b p =
    let c = p.1.0 in
    let l = p.1.1.0 in
    let s = p.1.1.1.0 in
    let w = p.1.1.1.1.0 in
    let u = p.1.1.1.1.1.0 in
    record {
      lane_slot = l.0;
      lane_used = l.1.1.0;
      lane_loads = l.1.0;
      slot_used = s.1.0;
      slot_loads = s.0;
      used_loads = λ e. w.0 (sym e);
      lane_counts = λ e. c.0 (sym e);
      slot_counts = λ e. c.1.0 (sym e);
      used_counts = λ e. c.1.1.1.0 (sym e);
      loads_counts = λ e. c.1.1.0 (sym e);
      lane_extent = l.1.1.1.0;
      slot_extent = s.1.1.0;
      used_extent = u.0;
      loads_extent = w.1.0;
    }

aside : (i : ℕ) (b : ScheduleBuffers) → AreApart (i ∷ written b) → Aside i b
aside i b p =
    let x = p.0 in
    let l = p.1.1.0 in
    let s = p.1.1.1.0 in
    record {
      index_lanes = x.1.1.1.1.1.1.0;
      index_slots = x.1.1.1.1.1.1.1.0;
      lane_lanes = l.1.1.1.1.0;
      lane_slots = l.1.1.1.1.1.0;
      slot_lanes = s.1.1.1.0;
      slot_slots = s.1.1.1.1.0;
      lanes_slots = p.1.1.1.1.1.1.1.0.0;
    }

counts : (i : ℕ) (b : ScheduleBuffers) → AreApart (i ∷ written b) → Counts i b
counts i b p =
    let x = p.0 in
    let c = p.1.0 in
    let w = p.1.1.1.1.0 in
    let u = p.1.1.1.1.1.0 in
    let e = p.1.1.1.1.1.1.0 in
    record {
      index = x.0;
      index_lane = x.1.0;
      index_slot = x.1.1.0;
      index_loads = x.1.1.1.0;
      index_used = x.1.1.1.1.0;
      index_extent = x.1.1.1.1.1.0;
      counts_lanes = c.1.1.1.1.1.0;
      counts_slots = c.1.1.1.1.1.1.0;
      counts_extent = c.1.1.1.1.0;
      loads_lanes = w.1.1.0;
      loads_slots = w.1.1.1.0;
      used_lanes = u.1.0;
      used_slots = u.1.1.0;
      extent_lanes = e.0;
      extent_slots = e.1.0;
    }

-- ---- the whole

zeros_are : (xs : List ℤ) (n : ℕ) → IsZeros xs n → xs ≡ map pos (replicate n 0)
zeros_are xs n z =
    let many : length (replicate {A = ℕ} n 0) ≡ n = length-replicate n 0 in
    same_lists xs (map pos (replicate n 0)) (z.long ∙ sym (length-map (replicate n 0) pos ∙ many))
    (λ k d lt. let lk : k < n = omega (arith, lt, z.long) in
    get_or_default xs k d (pos 0) lt ∙ (z.cells k lk ∙ sym (get_or-map pos (replicate n 0) k 0 d (omega (arith, lk, many)) ∙ ap pos (get_or-replicate n k 0 0 lk))))

record Ended (shape : Shape) (m es : List Entry) (axis : Axis) (n : ℕ) (b : ScheduleBuffers) (next : ℕ) (s u : State) : Type 0 where
  pub places : HoldPlaces shape m axis n b u.bufs
  pub wide : length (u.bufs b.extent) ≡ 1
  pub extent : slice_index_or (u.bufs b.extent) 0 (pos 0) ≡ pos (schedule_extent m shape axis n)
  pub lanes_long : length (u.bufs b.lanes) ≡ length es
  pub lanes : (y : ℕ) → y < length es → slice_index_or (u.bufs b.lanes) y (pos 0) ≡ pos (lane_at m shape axis n (index_at axis (entry_at es y)))
  pub slots_long : length (u.bufs b.slots) ≡ length es
  pub slots_in : (y : ℕ) → y < length es → slice_index_or (u.bufs b.slots) y (pos 0) ≡ pos (slot_at m shape axis n (index_at axis (entry_at es y)))
  pub others : (c : ℕ) → IsNone c (written b) → u.bufs c ≡ s.bufs c
  pub regs : (r : ℕ) → r < next → u.regs r ≡ s.regs r
  pub steps : u.steps ≤ s.steps + length es * 12 + indices axis shape * (n * 5 + 13) + 5

module _ (env : Env) (cs : Columns) (i : ℕ) (size : Dim) (n : ℕ) (b : ScheduleBuffers) (next : ℕ) (shape : Shape) (m es : List Entry) (axis : Axis) (s : State) (moved : IsPermutation m es) (count : env.dims cs.count ≡ length es) (small : length es < 2 ^ 62) (hs : size_of env size ≡ indices axis shape) (given : AreIndices (s.bufs i) (length es) (indices axis shape) (λ x. index_at axis (entry_at es x))) (some : 0 < n) (few : n * schedule_extent m shape axis n ≤ limit) (ready : AreReady (length es) (indices axis shape) n b s.bufs) (apart : AreApart (i ∷ written b)) where
  abbrev A : ℕ
  A = indices axis shape

  abbrev M : ℕ
  M = length es

  abbrev index : ℕ → ℕ
  index x = index_at axis (entry_at es x)

  abbrev Q : State → Type 0
  Q = Ended shape m es axis n b next s

  abbrev S : State → State → Type 0
  S = Spread shape m axis n b (next + 4)

  abbrev L : ℕ → ℕ
  L a = lane_at m shape axis n a

  abbrev K : ℕ → ℕ
  K a = slot_at m shape axis n a

  abbrev back : Code
  back = at_index cs i size (next + 13) (both_looked_up b (next + 13))

  scheduled : LoadsSchedule shape m axis n no_value
  scheduled = scheduled_with shape m axis n some (omega (arith, small, length_permutation m es moved)) few

  light : Light shape m axis n b (next + 4)
  light = record {
    load = λ k lt. omega (arith, load_fits shape m axis n no_value scheduled k lt, small, length_permutation m es moved);
    slot = λ k lt. slot_fits shape m axis n no_value scheduled few k lt;
  }

  to_size : (xs : List ℤ) → AreIndices xs M A index → AreIndices xs M (size_of env size) index
  to_size xs h = subst (λ (k : ℕ). AreIndices xs M k index) (sym hs) h

  -- what the counts leave is what the spreading begins with
  begun : (u : State) → Up s M A i b.counts index M u.bufs → Begun shape m axis n b (next + 4) u.bufs
  begun u d =
      let p = separate i b apart in
      let loads : u.bufs b.loads ≡ s.bufs b.loads = d.others b.loads p.loads_counts in
      let used : u.bufs b.used ≡ s.bufs b.used = d.others b.used p.used_counts in
      record {
        weighed = record { long = d.long; cells = λ y ly. d.cells y ly ∙ ap pos (passed_are_weights m es axis moved y) };
        loads = loads ∙ (zeros_are (s.bufs b.loads) n ready.loads ∙ ap (map pos) (sym scheduled.no_loads));
        used = used ∙ (zeros_are (s.bufs b.used) n ready.used ∙ ap (map pos) (sym scheduled.no_slots));
        lane = ap (λ (xs : List ℤ). length xs) (d.others b.lane p.lane_counts) ∙ ready.lane;
        slot = ap (λ (xs : List ℤ). length xs) (d.others b.slot p.slot_counts) ∙ ready.slot;
        extent = ap (λ (xs : List ℤ). length xs) (d.others b.extent (λ e. (counts i b apart).counts_extent (sym e))) ∙ ready.extent;
      }

  -- behind the spreading
  looked : (u : State) → Passing next 5 (Up s M A i b.counts index) M s u → (w : State) → S u w → Does env back w Q
  looked u p w v =
      let d = p.holds in
      let f = separate i b apart in
      let g = aside i b apart in
      let c = counts i b apart in
      let kept : (x : ℕ) → x ≢ b.counts → x ≢ b.lane → x ≢ b.slot → x ≢ b.used → x ≢ b.loads → x ≢ b.extent → w.bufs x ≡ s.bufs x = λ x hc hl hk hu hw he. v.others x hl hk hu hw he ∙ d.others x hc in
      let lanes : w.bufs b.lanes ≡ s.bufs b.lanes =
      kept b.lanes (λ e. c.counts_lanes (sym e)) (λ e. g.lane_lanes (sym e)) (λ e. g.slot_lanes (sym e)) (λ e. c.used_lanes (sym e)) (λ e. c.loads_lanes (sym e)) (λ e. c.extent_lanes (sym e)) in
      let slots : w.bufs b.slots ≡ s.bufs b.slots =
      kept b.slots (λ e. c.counts_slots (sym e)) (λ e. g.lane_slots (sym e)) (λ e. g.slot_slots (sym e)) (λ e. c.used_slots (sym e)) (λ e. c.loads_slots (sym e)) (λ e. c.extent_slots (sym e)) in
      let column : w.bufs i ≡ s.bufs i = kept i c.index c.index_lane c.index_slot c.index_used c.index_loads c.index_extent in
      let begin : Looking w M A i b index L K 0 w.bufs = record {
        given = subst (λ (ys : List ℤ). AreIndices ys M A index) (sym column) given;
        lane_long = v.lane_long;
        lane = λ y ly. v.lane y ly ∙ ap pos (scheduled.lane y ly);
        slot_long = v.slot_long;
        slot = λ y ly. v.slot y ly ∙ ap pos (scheduled.slot y ly);
        lanes_long = ap (λ (ys : List ℤ). length ys) lanes ∙ ready.lanes;
        lanes = λ y ly. absurd (omega (arith, ly));
        slots_long = ap (λ (ys : List ℤ). length ys) slots ∙ ready.slots_in;
        slots = λ y ly. absurd (omega (arith, ly));
        others = λ x hl hk. refl;
      } in
      let looks = at_index_does env cs i size (next + 13) M 4 (both_looked_up b (next + 13)) index (Looking w M A i b index L K) w count (λ t bufs x. to_size (bufs i) x.given) begin
      (look_turns env w M A i b (next + 13) index L K g) in
      do_weaker env back w (Passing (next + 13) 7 (Looking w M A i b index L K) M w) Q
      (λ x y. let h = y.holds in
      let extent : x.bufs b.extent ≡ w.bufs b.extent = h.others b.extent c.extent_lanes c.extent_slots in
      record {
        places = record { lane_long = h.lane_long; lane = h.lane; slot_long = h.slot_long; slot = h.slot };
        wide = ap (λ (ys : List ℤ). length ys) extent ∙ v.wide;
        extent = ap (λ (ys : List ℤ). slice_index_or ys 0 (pos 0)) extent ∙ (v.extent ∙ ap pos scheduled.extent);
        lanes_long = h.lanes_long;
        lanes = h.lanes;
        slots_long = h.slots_long;
        slots_in = h.slots;
        others = λ z q. h.others z q.1.1.1.1.1.1.0 q.1.1.1.1.1.1.1.0 ∙ kept z q.0 q.1.0 q.1.1.0 q.1.1.1.1.0 q.1.1.1.0 q.1.1.1.1.1.0;
        regs = λ r lr. y.regs r (omega (arith, lr)) ∙ (v.regs r (omega (arith, lr)) ∙ p.regs r lr);
        steps = omega (arith, y.steps, v.steps, p.steps);
      }) looks

  schedule_does : Does env (schedule cs i size n b next) s (Ended shape m es axis n b next s)
  schedule_does =
      let f = separate i b apart in
      let begin : Up s M A i b.counts index 0 s.bufs = record { given = given; long = ready.counts_in.long; cells = ready.counts_in.cells; others = λ c h. refl } in
      let first : Code = at_index cs i size next (one_more b.counts next) in
      let middle : Code = spread size b n (next + 4) in
      let ups = at_index_does env cs i size next M 2 (one_more b.counts next) index (Up s M A i b.counts index) s count (λ t bufs x. to_size (bufs i) x.given) begin
      (up_turns env s M A i b.counts next index small (counts i b apart).index) in
      do_append env first (middle +++ back) s Q
      (do_weaker env first s (Passing next 5 (Up s M A i b.counts index) M s) (λ u. Does env (middle +++ back) u Q)
      (λ u p. do_append env middle back u Q (do_weaker env middle u (S u) (λ w. Does env back w Q) (looked u p) (spread_does shape m axis n b (next + 4) env size u hs scheduled light f (begun u p.holds)))) ups)

pub schedules : Schedules
schedules env cs i size n b next shape m es axis s moved count small hs given some few ready apart =
    let d = schedule_does env cs i size n b next shape m es axis s moved count small hs given some few ready apart in
    let e = d.post in
    record {
      places = e.places;
      wide = e.wide;
      extent = e.extent;
      lanes_long = e.lanes_long;
      lanes = e.lanes;
      slots_long = e.slots_long;
      slots_in = e.slots_in;
      others = e.others;
      regs = e.regs;
      steps = e.steps;
      stuck = d.calm;
    }
