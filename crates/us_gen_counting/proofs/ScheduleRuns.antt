-- The phases of a schedule leave its values.
use Rattle.std.specs.Prelude.{slice_index_or}
use Rattle.std.specs.List.{range_with_len}
use Rattle.std.proofs.Common.{◌≡◌, ℕ, suc, ◌+◌, ◌*◌, ◌^◌, ◌<◌, ◌≤◌, refl, sym, ap, ◌∙◌, arith, List, [], ◌∷◌, map, length, replicate, pos, ℤ}
use Rattle.std.proofs.Math.Nat.{mul-le-mul_right}
use Rattle.std.proofs.lemmas.List.{get_or_default, get_or-map, length-replicate, same_lists}
use Rattle.std.proofs.lemmas.List.FromFn.{length-map-range_with_len, get_or-map-range_with_len}
use Rattle.std.proofs.lemmas.List.Sorted.{length_permutation}
use Rattle.us_code.specs.declared.program.Dim.TheVariants as dim
use Rattle.us_code.specs.declared.program.Buf.TheVariants as buf
use Rattle.us_code.specs.declared.program.CellKind.TheVariants as kind
use Rattle.us_code.specs.declared.program.Make.{Make}
use Rattle.us_code.specs.declared.pieces.Columns.{Columns}
use Rattle.us_code.specs.Plain.{Number, Reg, Code, End, Load, Product}
use Rattle.us_code.specs.Run.{Env, State, exec, tick, set_reg}
use Rattle.us_code.specs.Runs.{World, begin, phases}
use Rattle.us_code_laws.proofs.Does.{do_end, do_append, do_load}
use Rattle.us_code_laws.proofs.Sequence.{put_same, put_other}
use Rattle.us_expr.specs.declared.queries.Axis.{Axis}
use Rattle.us_expr.specs.declared.queries.Axis.TheVariants as axis
use Rattle.us_format.specs.Matrix.{Entry, Shape, index_at, indices}
use Rattle.us_format.specs.Queries.{plain_value, lane_at, slot_at, schedule_extent, rows_cell}
use Rattle.us_format.specs.Declaration.{index_of}
use Rattle.us_format.specs.Reading.{limit}
use Rattle.us_gen.specs.Goes.{Leads, after, lined}
use Rattle.us_gen.proofs.Going.{leads_none, leads_weaker, leads_both, Body, phase_leads, line_leads, product_leads}
use Rattle.us_query_loops.specs.Laws.{LoadsSchedule}
use Rattle.us_query_loops.specs.Sorted.{entry_at}
use Rattle.us_query_loops.proofs.Scheduling.{loads-are-scheduled}
use Rattle.us_gen_query.specs.Scheduling.{schedule, rows, AreReady, HoldPlaces, Scheduled, Tabled}
use Rattle.us_gen_query.proofs.SchedulesRun.{schedules}
use Rattle.us_gen_query.proofs.RowsRun.{tables_rows}
use Rattle.us_gen_counting.specs.Entries.{HoldEntries}
use Rattle.us_gen_counting.specs.Phases.{index_column, schedule_buffers, schedule_makes, schedule_lines, schedule_phase, rows_phase, schedule_phases}
use Rattle.us_gen_counting.specs.Runs.{IsGiven}
use Rattle.us_gen_counting.proofs.Makes.{Zeroed, makes_zero}
use Rattle.us_gen_counting.proofs.Keys.{nothing, column_is, are_zeros, HeldIn, index_held, index_below}
use Rattle.us_gen_counting.proofs.Blocks.{values_long, one_cell, index_value}
use Rattle.us_gen_counting.proofs.PhaseRuns.{phase_leaves, held_later}

-- a list with these cells
cells_are : (f : ℕ → ℤ) (xs : List ℤ) (k : ℕ) → length xs ≡ k → ((y : ℕ) → y < k → slice_index_or xs y (pos 0) ≡ f y) → xs ≡ map f (range_with_len 0 k)
cells_are f xs k long each =
    same_lists xs (map f (range_with_len 0 k)) (long ∙ sym (length-map-range_with_len f 0 k))
    (λ y d lt. let ly : y < k = omega (arith, lt, long) in get_or_default xs y d (pos 0) lt ∙ (each y ly ∙ sym (get_or-map-range_with_len f 0 k y y d ly (omega arith))))

-- what both phases leave
pub record IsScheduled (s : Shape) (m es : List Entry) (a : Axis) (lanes n : ℕ) (bufs : ℕ → List ℤ) : Type 0 where
  pub lane : bufs (n + 2) ≡ map (λ x. pos (lane_at m s a lanes (index_at a x))) es
  pub slot : bufs (n + 5) ≡ map (λ x. pos (slot_at m s a lanes (index_at a x))) es
  pub extent : bufs (n + 3) ≡ pos (schedule_extent m s a lanes) ∷ []
  pub table : bufs (n + 11) ≡ map (λ x. pos (rows_cell m s a lanes x)) (range_with_len 0 (lanes * schedule_extent m s a lanes))

module _ (w : World) (s : Shape) (cs : Columns) (m es : List Entry) (n : ℕ) (given : IsGiven w cs s m es n) (a : Axis) (lanes : ℕ) (some : 0 < lanes) (narrow : lanes ≤ 64) (small : lanes * schedule_extent m s a lanes ≤ limit) where
  abbrev A : ℕ
  A = indices a s

  abbrev E : ℕ
  E = schedule_extent m s a lanes

  abbrev F : ℕ
  F = lanes * E

  few : length es < 2 ^ 62
  few = omega (arith, given.few)

  few_all : length m < 2 ^ 62
  few_all = omega (arith, few, length_permutation m es given.held.shuffled)

  loads : LoadsSchedule s m a lanes (2 ^ 62)
  loads = loads-are-scheduled s m a lanes (2 ^ 62) some few_all small

  short : A ≤ limit
  short = omega (arith, loads.long, small)

  -- a lane has no more slots than the table has cells
  extent_small : E ≤ limit
  extent_small = let le : 1 * E ≤ F = mul-le-mul_right {m = 1} {n = lanes} E some in omega (arith, le, small)

  column_low : index_column cs a < n
  column_low = low a
    where
      low : (a : Axis) → index_column cs a < n
      low axis.Rows = given.i
      low axis.Cols = given.j

  -- behind the first phase
  record First (u : World) : Type 0 where
    pub held : HoldPlaces s m a lanes (schedule_buffers n) u.bufs
    pub lane : u.bufs (n + 2) ≡ map (λ x. pos (lane_at m s a lanes (index_at a x))) es
    pub slot : u.bufs (n + 5) ≡ map (λ x. pos (slot_at m s a lanes (index_at a x))) es
    pub extent : u.bufs (n + 3) ≡ pos E ∷ []
    pub slots_in : u.env.dims (n + 9) ≡ E
    pub cells_in : u.env.dims (n + 10) ≡ F

  abbrev cost : ℕ
  cost = length es * 12 + A * (lanes * 5 + 13) + 5 + 1

  abbrev code : Code
  code = schedule cs (index_column cs a) (dim.Number A) lanes (schedule_buffers n) (n + 16)

  first_leads : Leads n (8 + cost + 2) w (phases (schedule_phase s cs a lanes n ∷ []) w) First
  first_leads =
      let ms = schedule_makes cs A lanes n in
      let size : A ≤ 67108865 = omega (arith, short) in
      let wide : lanes ≤ 67108865 = omega (arith, narrow) in
      let entries : w.env.dims cs.count ≤ 67108865 = omega (arith, given.few, given.held.count) in
      phase_leads n 8 cost 2 (schedule_phase s cs a lanes n) w (Zeroed n ms w) First
      (makes_zero n n ms w (omega arith) (omega arith, (omega arith, (omega arith, (omega arith, (omega arith, (omega arith, (omega arith, (omega arith, tt))))))))
      (size, (size, (entries, (omega arith, (entries, (size, (wide, (wide, tt)))))))))
      (λ u z keeps.
      let h : HoldEntries u.env u.bufs cs m es = held_later w s cs m es n given u keeps in
      let zs = z.zeros in
      let held : HeldIn u.bufs cs es = record { rows = h.rows; cols = h.cols } in
      let column = index_held u.bufs cs es held a in
      let long : (xs : List ℤ) (k : ℕ) → xs ≡ replicate k (pos 0) → length xs ≡ k = λ xs k e. ap (λ (ys : List ℤ). length ys) e ∙ length-replicate k (pos 0) in
      let ready : AreReady (length es) A lanes (schedule_buffers n) u.bufs = record {
        counts_in = are_zeros (u.bufs n) A A zs.0 refl;
        lane = long (u.bufs (n + 1)) A zs.1.0;
        lanes = long (u.bufs (n + 2)) (w.env.dims cs.count) zs.1.1.0 ∙ given.held.count;
        extent = long (u.bufs (n + 3)) 1 zs.1.1.1.0;
        slots_in = long (u.bufs (n + 5)) (w.env.dims cs.count) zs.1.1.1.1.0 ∙ given.held.count;
        slot = long (u.bufs (n + 6)) A zs.1.1.1.1.1.0;
        loads = are_zeros (u.bufs (n + 7)) lanes lanes zs.1.1.1.1.1.1.0 refl;
        used = are_zeros (u.bufs (n + 8)) lanes lanes zs.1.1.1.1.1.1.1.0 refl;
      } in
      let d : Scheduled s m es a lanes (schedule_buffers n) (n + 16) (begin u) (exec u.env code (begin u))
      = schedules u.env cs (index_column cs a) (dim.Number A) lanes (schedule_buffers n) (n + 16) s m es a (begin u) h.shuffled h.count few refl
      (record {
        long = ap (λ (xs : List ℤ). length xs) column ∙ values_long (index_of a) es;
        cells = λ x lx. ap (λ (xs : List ℤ). slice_index_or xs x (pos 0)) column ∙ (get_or-map (plain_value (index_of a)) es x nothing (pos 0) lx ∙ index_value a (entry_at es x));
        below = λ x lx. index_below s m es given.matrix h.shuffled a x lx;
      }) some small ready (((λ q. omega (arith, q, column_low)), ((λ q. omega (arith, q, column_low)), ((λ q. omega (arith, q, column_low)), ((λ q. omega (arith, q, column_low)), ((λ q. omega (arith, q, column_low)), ((λ q. omega (arith, q, column_low)), ((λ q. omega (arith, q, column_low)), ((λ q. omega (arith, q, column_low)), tt)))))))), (((λ q. omega (arith, q)), ((λ q. omega (arith, q)), ((λ q. omega (arith, q)), ((λ q. omega (arith, q)), ((λ q. omega (arith, q)), ((λ q. omega (arith, q)), ((λ q. omega (arith, q)), tt))))))), (((λ q. omega (arith, q)), ((λ q. omega (arith, q)), ((λ q. omega (arith, q)), ((λ q. omega (arith, q)), ((λ q. omega (arith, q)), ((λ q. omega (arith, q)), tt)))))), (((λ q. omega (arith, q)), ((λ q. omega (arith, q)), ((λ q. omega (arith, q)), ((λ q. omega (arith, q)), ((λ q. omega (arith, q)), tt))))), (((λ q. omega (arith, q)), ((λ q. omega (arith, q)), ((λ q. omega (arith, q)), ((λ q. omega (arith, q)), tt)))), (((λ q. omega (arith, q)), ((λ q. omega (arith, q)), ((λ q. omega (arith, q)), tt))), (((λ q. omega (arith, q)), ((λ q. omega (arith, q)), tt)), (((λ q. omega (arith, q)), tt), (tt, tt))))))))) in
      let v = exec u.env code (begin u) in
      let wide : length (v.bufs (n + 3)) ≡ 1 = d.wide in
      let extent : v.bufs (n + 3) ≡ pos E ∷ [] = one_cell (v.bufs (n + 3)) (pos E) d.wide d.extent in
      let x : State = set_reg (n + 44) (slice_index_or (v.bufs (n + 3)) 0 (pos 0)) (tick 1 v) in
      let Q : State → Type 0 = Body n cost 2 (schedule_lines lanes n) First u in
      let w1 : World = after u x in
      let w2 : World = lined (n + 9) E 0 w1 in
      let right : w2.env.dims (n + 9) ≡ E = put_same w1.env.dims (n + 9) E in
      let all : lanes * w2.env.dims (n + 9) ≡ F = ap (λ (y : ℕ). lanes * y) right in
      let w3 : World = lined (n + 10) (lanes * w2.env.dims (n + 9)) (w2.env.dims (n + 9)) w2 in
      let goal : First w3 = record {
        held = d.places;
        lane = column_is (λ (y : Entry). pos (lane_at m s a lanes (index_at a y))) nothing (v.bufs (n + 2)) es d.lanes_long d.lanes;
        slot = column_is (λ (y : Entry). pos (slot_at m s a lanes (index_at a y))) nothing (v.bufs (n + 5)) es d.slots_long d.slots_in;
        extent = extent;
        slots_in = put_other w2.env.dims (n + 10) _ (n + 9) (omega arith) ∙ right;
        cells_in = put_same w2.env.dims (n + 10) _ ∙ all;
      } in
      do_append u.env code (Load (n + 44) (buf.New (n + 3)) (Number 0) End) (begin u) Q record {
        post = do_load u.env (n + 44) (buf.New (n + 3)) (Number 0) End v Q 0 refl (omega (arith, wide)) (do_end u.env x Q record {
          steps = omega (arith, d.steps);
          bufs = λ b lb. d.others b ((λ q. omega (arith, q, lb)), ((λ q. omega (arith, q, lb)), ((λ q. omega (arith, q, lb)), ((λ q. omega (arith, q, lb)), ((λ q. omega (arith, q, lb)), ((λ q. omega (arith, q, lb)), ((λ q. omega (arith, q, lb)), ((λ q. omega (arith, q, lb)), tt))))))));
          then = line_leads n 1 x.regs (n + 9) E (Reg (n + 44)) (Product (n + 10) (dim.Number lanes) (dim.Name (n + 9)) ∷ []) w1 First (omega arith) (put_same v.regs (n + 44) _ ∙ d.extent) (omega (arith, extent_small))
              (product_leads n 0 x.regs (n + 10) (dim.Number lanes) (dim.Name (n + 9)) [] w2 First (omega arith) (omega (arith, all, small)) (leads_none n w3 First goal));
        });
        calm = d.stuck;
      })

  second_leads : (u : World) → First u → Leads (n + 11) (1 + (1 + A * 5)) u (phases (rows_phase s a n ∷ []) u) (λ v. v.bufs (n + 11) ≡ map (λ x. pos (rows_cell m s a lanes x)) (range_with_len 0 F))
  second_leads u f =
      let ms : List Make = record { buf = n + 11; len = dim.Name (n + 10); cell = kind.Word } ∷ [] in
      let back = rows (dim.Number A) (schedule_buffers n) (dim.Name (n + 10)) (n + 9) (n + 11) (n + 40) in
      let R : (ℕ → List ℤ) → Type 0 = λ bufs. bufs (n + 11) ≡ map (λ x. pos (rows_cell m s a lanes x)) (range_with_len 0 F) in
      phase_leaves (n + 11) 1 (1 + A * 5) ms back u R (omega arith) (omega arith, tt) (omega (arith, f.cells_in, small), tt)
      (λ v z keeps.
      let dims : (d : ℕ) → v.env.dims d ≡ u.env.dims d = λ d. ap (λ (e : Env). e.dims d) z.env in
      let same : (b : ℕ) → b < n + 11 → v.bufs b ≡ u.bufs b = z.below in
      let places : HoldPlaces s m a lanes (schedule_buffers n) v.bufs = record {
        lane_long = ap (λ (xs : List ℤ). length xs) (same (n + 1) (omega arith)) ∙ f.held.lane_long;
        lane = λ y ly. ap (λ (xs : List ℤ). slice_index_or xs y (pos 0)) (same (n + 1) (omega arith)) ∙ f.held.lane y ly;
        slot_long = ap (λ (xs : List ℤ). length xs) (same (n + 6) (omega arith)) ∙ f.held.slot_long;
        slot = λ y ly. ap (λ (xs : List ℤ). slice_index_or xs y (pos 0)) (same (n + 6) (omega arith)) ∙ f.held.slot y ly;
      } in
      let t : Tabled s m a lanes (n + 11) (n + 40) (begin v) (exec v.env back (begin v))
      = tables_rows v.env (dim.Number A) lanes (schedule_buffers n) (dim.Name (n + 10)) (n + 9) (n + 11) (n + 40) s m a (begin v) few_all refl some small (dims (n + 9) ∙ f.slots_in) (dims (n + 10) ∙ f.cells_in) places
      (are_zeros (v.bufs (n + 11)) (u.env.dims (n + 10)) F z.zeros.0 f.cells_in) (λ q. omega (arith, q)) (λ q. omega (arith, q)) in
      let x = exec v.env back (begin v) in
      record {
        post = record {
          holds = cells_are (λ y. pos (rows_cell m s a lanes y)) (x.bufs (n + 11)) F t.long t.cells;
          below = λ b lb. t.others b (λ q. omega (arith, q, lb));
          steps = omega (arith, t.steps);
        };
        calm = t.stuck;
      })

  pub schedule_leads : Leads n (8 + cost + 2 + (1 + (1 + A * 5))) w (phases (schedule_phases s cs a lanes n) w) (λ u. IsScheduled s m es a lanes n u.bufs)
  schedule_leads =
      leads_both n (n + 11) (8 + cost + 2) (1 + (1 + A * 5)) (schedule_phase s cs a lanes n ∷ []) (rows_phase s a n ∷ []) w First (λ u. IsScheduled s m es a lanes n u.bufs) (omega arith) first_leads
      (λ u f keeps.
      leads_weaker (n + 11) (1 + (1 + A * 5)) u (phases (rows_phase s a n ∷ []) u) (λ v. v.bufs (n + 11) ≡ map (λ x. pos (rows_cell m s a lanes x)) (range_with_len 0 F)) (λ v. IsScheduled s m es a lanes n v.bufs)
      (λ v t k. record { lane = k.bufs (n + 2) (omega arith) ∙ f.lane; slot = k.bufs (n + 5) (omega arith) ∙ f.slot; extent = k.bufs (n + 3) (omega arith) ∙ f.extent; table = t })
      (second_leads u f))

  -- at no more than its share
  pub cheap : 8 + cost + 2 + (1 + (1 + A * 5)) ≤ 32 * (length es + 1 + (F + suc lanes * A))
  cheap =
      let split : A * (lanes * 5 + 13) ≡ A * lanes * 5 + A * 13 = grind arith in
      let more : suc lanes * A ≡ A + A * lanes = grind arith in
      bound (length es) A (A * lanes) F (A * (lanes * 5 + 13)) (suc lanes * A) split more
    where
      bound : (m k p f x y : ℕ) → x ≡ p * 5 + k * 13 → y ≡ k + p → 8 + (m * 12 + x + 5 + 1) + 2 + (1 + (1 + k * 5)) ≤ 32 * (m + 1 + (f + y))
      bound m k p f x y a b = omega (arith, a, b)
