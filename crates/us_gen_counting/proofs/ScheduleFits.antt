-- The phases of a schedule are typed in every context with room.
use Rattle.std.proofs.Common.{◌≡◌, ℕ, ◌+◌, ◌<◌, Bool, true, nat_eq, nat_lt, ◌||◌, refl, ap, ◌∙◌, arith, List, [], ◌∷◌, Option, Some}
use Rattle.std.proofs.lemmas.Bool.Decides.{nat_tests}
use Rattle.us_code.specs.declared.program.Dim.TheVariants as dim
use Rattle.us_code.specs.declared.program.Buf.TheVariants as buf
use Rattle.us_code.specs.declared.program.CellKind.TheVariants as kind
use Rattle.us_code.specs.declared.program.Make.{Make}
use Rattle.us_code.specs.declared.pieces.Columns.{Columns}
use Rattle.us_code.specs.Plain.{Number, Code, End, Load, PhaseTree}
use Rattle.us_code.specs.Typing.{Context, BufKind, RegKind, Form, Of, is_some, Typed, TypedMakes, buf_len, fits, outer, with_reg, with_form, with_bufs, after_phases}
use Rattle.us_code_laws.proofs.Sequence.{put_same, put_other}
use Rattle.us_code_laws.proofs.Typings.{typed_append}
use Rattle.us_expr.specs.declared.queries.Axis.{Axis}
use Rattle.us_format.specs.Matrix.{Shape, indices}
use Rattle.us_gen.specs.Rooms.{FreshFrom}
use Rattle.us_gen_query.specs.Filling as filling
use Rattle.us_gen_query.specs.Scheduling.{schedule, rows, HasBuffers}
use Rattle.us_gen_query.proofs.SchedulesFit.{schedule_typed, rows_typed}
use Rattle.us_gen_counting.specs.Phases.{index_column, schedule_buffers, schedule_makes, schedule_body, schedule_phase, rows_phase}
use Rattle.us_gen_counting.specs.Rooms.{RoomFrom, SeesColumns, Fit}
use Rattle.us_gen_counting.proofs.Makes.{Made, makes_fit}
use Rattle.us_gen_counting.proofs.PhaseFits.{PhaseFits, phase_fits, outer_same, index_seen, visible, fit_both}

-- 0 is below a number of lanes
room_lanes : (lanes : ℕ) (x : Bool) → 0 < lanes → nat_lt 0 lanes || x ≡ true
room_lanes lanes x lt = let h : nat_lt 0 lanes ≡ true = grind (arith, nat_tests) in ap (λ (b : Bool). b || x) h

module _ (g : Context) (cs : Columns) (n : ℕ) (room : RoomFrom g n) (seen : SeesColumns g cs) (plain : cs.vars.items ≡ []) (s : Shape) (a : Axis) (lanes : ℕ) (some : 0 < lanes) where
  abbrev A : ℕ
  A = indices a s

  abbrev ms : List Make
  ms = schedule_makes cs A lanes n

  abbrev first : PhaseTree
  first = schedule_phase s cs a lanes n

  abbrev second : PhaseTree
  second = rows_phase s a n

  abbrev h : Context
  h = with_bufs g ms

  abbrev code : Code
  code = schedule cs (index_column cs a) (dim.Number A) lanes (schedule_buffers n) (n + 16)

  makes_ok : TypedMakes g ms × Made g n (n + 11) ms h
  makes_ok =
      makes_fit g n (n + 11) ms (omega arith, (omega arith, (omega arith, (omega arith, (omega arith, (omega arith, (omega arith, (omega arith, tt))))))))
      (omega arith, (omega arith, (omega arith, (omega arith, (omega arith, (omega arith, (omega arith, (omega arith, tt)))))))) room.bufs
      (refl, refl, refl, (refl, refl, room_lanes lanes (nat_eq lanes A) some, (seen.count, refl, refl, (refl, refl, refl, (seen.count, refl, refl, (refl, refl, refl, (refl, refl, refl, (refl, refl, refl, tt))))))))

  made : Made g n (n + 11) ms h
  made = makes_ok.1

  fresh : FreshFrom h (n + 16)
  fresh = record { none = λ y ly. ap (λ (f : ℕ → Option RegKind). f y) made.regs ∙ room.regs y }

  buffers : HasBuffers h.bufs cs (dim.Number A) lanes (schedule_buffers n)
  buffers = let k = made.kinds in record {
    counts_in = k.0;
    lane = k.1.0;
    lanes = k.1.1.0;
    extent = k.1.1.1.0;
    slots_in = k.1.1.1.1.0;
    slot = k.1.1.1.1.1.0;
    loads = k.1.1.1.1.1.1.0;
    used = k.1.1.1.1.1.1.1.0;
  }

  -- with the most slots in a register
  abbrev inner : Context
  inner = with_reg h (n + 16 + 4) true kind.Word

  body_typed : Typed h (schedule_body s cs a lanes n)
  body_typed =
      typed_append h code (Load (n + 44) (buf.New (n + 3)) (Number 0) End)
      (schedule_typed h cs (index_column cs a) (dim.Number A) lanes (schedule_buffers n) (n + 16) fresh (visible g cs n room seen plain (n + 11) ms h made) refl (index_seen g cs n room seen plain (n + 11) ms h made a) buffers)
      (put_other h.regs (n + 16 + 4) _ (n + 44) (omega arith) ∙ fresh.none (n + 44) (omega arith), ap is_some buffers.extent, refl, ap (λ (k : Option BufKind). fits (kind.Below (dim.Number 1)) (buf_len k)) buffers.extent, tt)

  abbrev end : Context
  end = outer h (schedule_body s cs a lanes n)

  first_fit : Fit g (first ∷ []) n (n + 11)
  first_fit =
      let o = outer_same h (schedule_body s cs a lanes n) in
      let dims : (d : ℕ) → end.dims d ≡ g.dims d = λ d. ap (λ (f : ℕ → Option Form). f d) (o.dims ∙ made.dims) in
      let e1 = with_form end (n + 9) Of in
      record {
        typed = (
          makes_ok.0,
          body_typed,
          (
            (dims (n + 9) ∙ room.dims (n + 9) (omega arith), ap is_some (put_same inner.regs (n + 44) _)),
            ((put_other end.dims (n + 9) (Some Of) (n + 10) (omega arith) ∙ (dims (n + 10) ∙ room.dims (n + 10) (omega arith)), refl, ap is_some (put_same end.dims (n + 9) (Some Of))), tt),
          ),
          tt,
        );
        more = record {
          room = record {
            regs = λ y. refl;
            bufs = λ b lb. ap (λ (f : ℕ → Option BufKind). f b) o.bufs ∙ (made.above b lb ∙ room.bufs b (omega (arith, lb)));
            dims = λ d ld. put_other e1.dims (n + 10) _ d (λ q. omega (arith, q, ld)) ∙ (put_other end.dims (n + 9) (Some Of) d (λ q. omega (arith, q, ld)) ∙ (dims d ∙ room.dims d (omega (arith, ld))));
          };
          sources = o.sources ∙ made.sources;
          bufs = λ b lb. ap (λ (f : ℕ → Option BufKind). f b) o.bufs ∙ made.below b lb;
          dims = λ d ld. put_other e1.dims (n + 10) _ d (λ q. omega (arith, q, ld)) ∙ (put_other end.dims (n + 9) (Some Of) d (λ q. omega (arith, q, ld)) ∙ dims d);
        };
      }

  abbrev h1 : Context
  h1 = after_phases g (first ∷ [])

  -- the buffers that it makes are there, and both dims
  kept : (b : ℕ) → h1.bufs b ≡ h.bufs b
  kept b = ap (λ (f : ℕ → Option BufKind). f b) (outer_same h (schedule_body s cs a lanes n)).bufs

  cells_seen : is_some (h1.dims (n + 10)) ≡ true
  cells_seen = ap is_some (put_same (with_form end (n + 9) Of).dims (n + 10) _)

  slots_seen : is_some (h1.dims (n + 9)) ≡ true
  slots_seen = ap is_some (put_other (with_form end (n + 9) Of).dims (n + 10) _ (n + 9) (omega arith) ∙ put_same end.dims (n + 9) (Some Of))

  abbrev table : List Make
  table = record { buf = n + 11; len = dim.Name (n + 10); cell = kind.Word } ∷ []

  second_fit : PhaseFits h1 table second (n + 11) (n + 64)
  second_fit =
      phase_fits h1 table (rows (dim.Number A) (schedule_buffers n) (dim.Name (n + 10)) (n + 9) (n + 11) (n + 40)) (n + 11) (n + 64) first_fit.more.room (omega arith) (omega arith, tt) (omega arith, tt) (cells_seen, refl, refl, tt)
      (λ i x fresh.
      rows_typed i (dim.Number A) (schedule_buffers n) lanes (dim.Name (n + 10)) (n + 9) (n + 11) (n + 40) (record { none = λ y ly. fresh.none y (omega arith) }) refl
      (ap (λ (f : ℕ → Option Form). is_some (f (n + 10))) x.dims ∙ cells_seen) (ap (λ (f : ℕ → Option Form). is_some (f (n + 9))) x.dims ∙ slots_seen)
      (x.below (n + 1) (omega arith) ∙ (kept (n + 1) ∙ buffers.lane)) (x.below (n + 6) (omega arith) ∙ (kept (n + 6) ∙ buffers.slot)) x.kinds.0)

  -- behind both: the columns, the extent and the table
  pub record ScheduleFits : Type 0 where
    pub fit : Fit g (first ∷ second ∷ []) n (n + 64)
    pub lanes_seen : (after_phases g (first ∷ second ∷ [])).bufs (n + 2) ≡ Some (filling.words cs)
    pub slots_in : (after_phases g (first ∷ second ∷ [])).bufs (n + 5) ≡ Some (filling.words cs)
    pub extent_seen : (after_phases g (first ∷ second ∷ [])).bufs (n + 3) ≡ Some record { len = dim.Number 1; cell = kind.Word }
    pub table_seen : is_some ((after_phases g (first ∷ second ∷ [])).bufs (n + 11)) ≡ true

  pub schedule_fits : ScheduleFits
  schedule_fits = record {
    fit = fit_both g (first ∷ []) (second ∷ []) n (n + 11) (n + 64) (omega arith) first_fit second_fit.fit;
    lanes_seen = second_fit.fit.more.bufs (n + 2) (omega arith) ∙ (kept (n + 2) ∙ buffers.lanes);
    slots_in = second_fit.fit.more.bufs (n + 5) (omega arith) ∙ (kept (n + 5) ∙ buffers.slots_in);
    extent_seen = second_fit.fit.more.bufs (n + 3) (omega arith) ∙ (kept (n + 3) ∙ buffers.extent);
    table_seen = ap is_some second_fit.kinds.0;
  }
