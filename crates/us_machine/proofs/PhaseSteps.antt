-- A phase, part by part.
use Rattle.std.proofs.Common.{◌≡◌, ℕ, zero, suc, ◌+◌, ◌<◌, ◌≤◌, Bool, true, false, cond, List, [], ◌∷◌, ◌++◌, map, take, drop, length, get_or, ℤ, pos, refl, sym, ap, ap₂, ◌∙◌, subst, arith, Ok, Err, take-append-drop, drop-cons}
use Rattle.std.proofs.lemmas.List.{take_more, length-map, drop_all}
use Rattle.us_raw.specs.declared.region.Segment.{Segment}
use Rattle.us_raw.specs.declared.width.Width.{Width}
use Rattle.us_raw.specs.Plan.{widths_of, zero_lists}
use Rattle.us_raw.specs.Region.{Lists}
use Rattle.us_code.specs.declared.program.Phase.{Phase}
use Rattle.us_code.specs.Plain.{LineTree, PhaseTree, phase_tree}
use Rattle.us_code.specs.Limits.{FitsPhases, FitsLines}
use Rattle.us_code.specs.Run.{State, exec}
use Rattle.us_code.specs.Runs.{World, Ran, Went, Stuck, ◌>>=◌, make_all, line_all, after_body, begin, phase, phases}
use Rattle.us_code.specs.Typing.{Context, outer, without_regs, with_bufs, with_lines, after_phase, after_phases, TypedPhases}
use Rattle.us_code_laws.specs.Fits.{Fits}
use Rattle.us_code_laws.specs.Programs.{Closed}
use Rattle.us_code_laws.proofs.Sound.{sound}
use Rattle.us_code_laws.proofs.Programs as laws
use Rattle.us_machine.specs.declared.budget.Budget.{Budget}
use Rattle.us_machine.specs.declared.stop.RunStop.{RunStop}
use Rattle.us_machine.specs.declared.stop.RunStop.TheVariants.{TooLarge, OutOfSteps, Memory}
use Rattle.us_machine.specs.declared.tables.Tables.{Tables}
use Rattle.us_machine.specs.Growing.{grown}
use Rattle.us_machine.specs.Steps.{Shows, IsOver}
use Rattle.us_machine.specs.Tables.{env_of}
use Rattle.us_machine.specs.Walks.{Stands, Sized, Reaches, Leads, state_of}
use Rattle.us_machine.specs.Phases.{grown_in, world_of, Point, world_at, IsAt, Next, Ends, Makes, Names, IsWhole, CanBegin, CanName, CanRun, After, count_makes}
use Rattle.us_machine.proofs.Readying.{fits_at, sized_outer}
use Rattle.us_machine.proofs.Series.{later_after, later_phases, later_lines, ended, stopped, no_room}

nothing_more : {A : Type 0} (xs : List A) → xs ++ [] ≡ xs
nothing_more [] = refl
nothing_more (x ∷ xs) = ap (λ ys. x ∷ ys) (nothing_more xs)

-- a region with all lists doesn't grow
pub whole_is : (t : Tables) (r : Lists) → IsWhole t r → grown_in t r ≡ r
whole_is t r w =
    let none : drop (length r.lists) t.plan.items ≡ [] = drop_all (length r.lists) t.plan.items (omega (arith, w.long)) in
    let lists : grown t.plan.items r.lists ≡ r.lists = ap (λ (xs : List Segment). r.lists ++ zero_lists xs) none ∙ nothing_more r.lists in
    ap₂ (λ (a : List (List ℤ)) (b : List Width). let l : Lists = record { lists = a; widths = b } in l) lists (sym w.widths)

pub stands_whole : (t : Tables) (sources : List (List ℤ)) (r : Lists) → Stands t sources r → IsWhole t r
stands_whole t sources r st = record { long = st.long; widths = st.widths }

abbrev none : ℕ → ℤ
none = λ _. pos 0

over_body : (b : Budget) (s : State) (ls : List LineTree) (w : World) (Q : World → Type 0) → IsOver b s.steps → Ends b (Err OutOfSteps) (after_body s ls w) Q
over_body b s ls w Q h = case s.stuck
  where
    case : (x : Bool) → Ends b (Err OutOfSteps) (cond x Stuck (line_all s.regs ls record { env = w.env; bufs = s.bufs; steps = s.steps })) Q
    case true = tt
    case false = stopped b OutOfSteps (Went record { env = w.env; bufs = s.bufs; steps = s.steps }) (line_all s.regs ls) Q Q h (later_lines s.regs ls)

module _ (t0 : Tables) (sources : List (List ℤ)) (r0 : Lists) (steps0 : ℕ) (ph : PhaseTree) where
  pub can_begin : CanRun t0 sources r0 steps0 (ph ∷ []) → CanBegin t0 sources r0 steps0 ph.makes
  can_begin y = record {
    can = record { point = y.point; at = y.at; typed = y.typed.0; fits = y.fits.0; room = omega (arith, y.room) };
    here = y.here;
    whole = y.whole;
  }

  pub makes_stop : (p : Point) (b : Budget) (e : RunStop) (P Q : World → Type 0) → Ends b (Err e) (make_all ph.makes (world_at t0 sources p)) P → Ends b (Err e) (phases (ph ∷ []) (world_at t0 sources p)) Q
  makes_stop p b e P Q h =
      stopped b e (phase ph (world_at t0 sources p)) (phases []) P Q
      (stopped b e (make_all ph.makes (world_at t0 sources p)) (λ u. after_body (exec u.env ph.body (begin u)) ph.lines u) P P h (later_after ph)) (later_phases [])

  module _ (t1 : Tables) (r1 : Lists) (steps1 : ℕ) (makes : Makes t0 t1 sources (Ok tt) steps0 steps1 ph.makes) (region : r1 ≡ grown_in t1 r0) (same : t1.budget ≡ t0.budget)
      (p : Point) (at : IsAt t0 sources steps0 p) (here : p.region ≡ r0) (empty : p.regs ≡ none) (typed : TypedPhases p.context (ph ∷ [])) where
    abbrev g1 : Context
    g1 = with_bufs p.context ph.makes

    begun : (w : World) × (make_all ph.makes (world_at t0 sources p) ≡ Went w) × Next t1 sources steps1 p g1 w
    begun = ended t0.budget tt (make_all ph.makes (world_at t0 sources p)) (λ w. Next t1 sources steps1 p g1 w) (makes p at typed.0)

    q : Point
    q = begun.2.point

    grown_is : grown_in t1 q.region ≡ r1
    unfolding q
    grown_is = ap (grown_in t1) (begun.2.region ∙ here) ∙ sym region

    pub n1 : ℕ
    n1 = q.count

    pub shows1 : Shows t1.budget steps1 n1
    unfolding q n1
    shows1 = begun.2.at.shows

    pub stands1 : Stands t1 sources r1
    unfolding q
    stands1 = subst (λ (l : Lists). Stands t1 sources l) grown_is begun.2.at.stands

    pub sized1 : Sized t1 sources g1
    sized1 = subst (λ (g : Context). Sized t1 sources g) begun.2.context begun.2.at.sized

    pub closed1 : Closed g1
    closed1 = subst (λ (g : Context). Closed g) begun.2.context begun.2.at.closed

    pub fits1 : Fits g1 (env_of t1 sources) (state_of t1 r1 none 0)
    unfolding q
    fits1 =
        subst (λ (l : Lists). Fits g1 (env_of t1 sources) (state_of t1 l none 0)) grown_is
        (subst (λ (f : ℕ → ℤ). Fits g1 (env_of t1 sources) (state_of t1 (grown_in t1 begun.2.point.region) f 0)) (begun.2.regs ∙ empty)
        (subst (λ (g : Context). Fits g (env_of t1 sources) (state_of t1 (grown_in t1 begun.2.point.region) begun.2.point.regs 0)) begun.2.context begun.2.at.fits))

    pub phase_is : phase ph (world_at t0 sources p) ≡ after_body (exec (env_of t1 sources) ph.body (state_of t1 r1 none n1)) ph.lines (world_of t1 sources r1 n1)
    unfolding q n1
    phase_is =
        ap (λ (r : Ran). r >>= (λ u. after_body (exec u.env ph.body (begin u)) ph.lines u)) (begun.1 ∙ ap Went begun.2.world)
        ∙ ap (λ (l : Lists). after_body (exec (env_of t1 sources) ph.body (state_of t1 l none begun.2.point.count)) ph.lines (world_of t1 sources l begun.2.point.count)) grown_is

    module _ (us0 : ℕ → ℤ) (zero0 : us0 ≡ none) where
      from_zero : (n : ℕ) → state_of t1 r1 us0 n ≡ state_of t1 r1 none n
      from_zero n = ap (λ (f : ℕ → ℤ). state_of t1 r1 f n) zero0

      pub block_stop : (e : RunStop) (r2 : Lists) (us : ℕ → ℤ) (k : ℕ) (Q : World → Type 0) → ((n : ℕ) → Shows t1.budget steps1 n → Leads t1 sources (Err e) (exec (env_of t1 sources) ph.body (state_of t1 r1 us0 n)) r2 us k) → Ends t0.budget (Err e) (phases (ph ∷ []) (world_at t0 sources p)) Q
      block_stop TooLarge r2 us k Q l = absurd (l n1 shows1)
      block_stop Memory r2 us k Q l = no_room t0.budget Memory (phases (ph ∷ []) (world_at t0 sources p)) Q refl
      block_stop OutOfSteps r2 us k Q l =
          let s = exec (env_of t1 sources) ph.body (state_of t1 r1 none n1) in
          let o : IsOver t1.budget s.steps = subst (λ (u : State). IsOver t1.budget (exec (env_of t1 sources) ph.body u).steps) (from_zero n1) (l n1 shows1) in
          let h : Ends t0.budget (Err OutOfSteps) (after_body s ph.lines (world_of t1 sources r1 n1)) Q = over_body t0.budget s ph.lines (world_of t1 sources r1 n1) Q (subst (λ (b : Budget). IsOver b s.steps) same o) in
          stopped t0.budget OutOfSteps (phase ph (world_at t0 sources p)) (phases []) Q Q (subst (λ (r : Ran). Ends t0.budget (Err OutOfSteps) r Q) (sym phase_is) h) (later_phases [])

      module _ (r2 : Lists) (us : ℕ → ℤ) (steps2 : ℕ) (l : (n : ℕ) → Shows t1.budget steps1 n → Reaches t1 sources (exec (env_of t1 sources) ph.body (state_of t1 r1 us0 n)) r2 us steps2) where
        pub d : Reaches t1 sources (exec (env_of t1 sources) ph.body (state_of t1 r1 us0 n1)) r2 us steps2
        d = l n1 shows1

        abbrev s2 : State
        s2 = exec (env_of t1 sources) ph.body (state_of t1 r1 none n1)

        s2_is : s2 ≡ state_of t1 r2 us d.count
        s2_is = ap (exec (env_of t1 sources) ph.body) (sym (from_zero n1)) ∙ d.is

        whole2 : grown_in t1 r2 ≡ r2
        whole2 = whole_is t1 r2 (stands_whole t1 sources r2 d.stands)

        abbrev q2 : Point
        q2 = record { region = r2; context = outer g1 ph.body; regs = us; count = d.count }

        pub at2 : IsAt t1 sources steps2 q2
        at2 =
            let done = sound (env_of t1 sources) g1 ph.body (state_of t1 r1 none n1) typed.1 (fits_at t1 sources g1 r1 none 0 n1 fits1) in
            record {
              closed = laws.closed_outer g1 ph.body typed.1 closed1;
              fits = subst (λ (x : Lists). Fits (outer g1 ph.body) (env_of t1 sources) (state_of t1 x us 0)) (sym whole2) (fits_at t1 sources (outer g1 ph.body) r2 us d.count 0 (subst (λ (u : State). Fits (outer g1 ph.body) (env_of t1 sources) u) s2_is done.fits));
              stands = subst (λ (x : Lists). Stands t1 sources x) (sym whole2) d.stands;
              sized = sized_outer t1 sources g1 ph.body sized1;
              shows = d.shows;
              fewer = omega (arith, d.stands.long);
            }

        pub lines_are : phase ph (world_at t0 sources p) ≡ line_all us ph.lines (world_at t1 sources q2)
        lines_are =
            phase_is ∙ (ap (λ (u : State). after_body u ph.lines (world_of t1 sources r1 n1)) s2_is
            ∙ ap (λ (x : Lists). line_all us ph.lines (world_of t1 sources x d.count)) (sym whole2))

        pub can_name : FitsLines ph.lines → CanName t1 sources steps2 us ph.lines
        can_name f = record { point = q2; at = at2; keeps = refl; typed = typed.2; fits = f }

        pub lines_stop : (t3 : Tables) (steps3 : ℕ) (e : RunStop) (Q : World → Type 0) → Names t1 t3 sources (Err e) steps2 steps3 us ph.lines → Ends t0.budget (Err e) (phases (ph ∷ []) (world_at t0 sources p)) Q
        lines_stop t3 steps3 e Q names =
            let P : World → Type 0 = λ w. Next t3 sources steps3 q2 (with_lines (outer g1 ph.body) ph.lines) w in
            let h = names q2 at2 refl typed.2 in
            let i : Ends t0.budget (Err e) (phase ph (world_at t0 sources p)) P = subst (λ (r : Ran). Ends t0.budget (Err e) r P) (sym lines_are) (subst (λ (b : Budget). Ends b (Err e) (line_all us ph.lines (world_at t1 sources q2)) P) same h) in
            stopped t0.budget e (phase ph (world_at t0 sources p)) (phases []) P Q i (later_phases [])

        pub phase_ends : (t3 : Tables) (steps3 : ℕ) → t3.budget ≡ t1.budget → t3.plan ≡ t1.plan → Names t1 t3 sources (Ok tt) steps2 steps3 us ph.lines → Ends t0.budget (Ok tt) (phases (ph ∷ []) (world_at t0 sources p)) (λ w. After t3 sources r2 steps3 (after_phases p.context (ph ∷ [])) w)
        phase_ends t3 steps3 eb ep names =
            let P : World → Type 0 = λ w. Next t3 sources steps3 q2 (with_lines (outer g1 ph.body) ph.lines) w in
            let x = ended t1.budget tt (line_all us ph.lines (world_at t1 sources q2)) P (names q2 at2 refl typed.2) in
            let k = x.2.point in
            let old : laws.Ready k.context k.regs (world_at t3 sources k) = record { closed = x.2.at.closed; fits = fits_at t3 sources k.context (grown_in t3 k.region) k.regs 0 k.count x.2.at.fits } in
            let new = laws.forget k.context k.regs (world_at t3 sources k) old in
            let fit : Fits (without_regs k.context) (env_of t3 sources) (state_of t3 (grown_in t3 k.region) none k.count) = new.fits in
            let z = x.2.at.sized in
            let after : After t3 sources r2 steps3 (after_phases p.context (ph ∷ [])) x.0 = record {
              point = record { region = k.region; context = without_regs k.context; regs = none; count = k.count };
              here = x.2.region;
              empty = refl;
              context = ap without_regs x.2.context;
              world = x.2.world;
              at = record {
                closed = new.closed;
                fits = fits_at t3 sources (without_regs k.context) (grown_in t3 k.region) none k.count 0 fit;
                stands = x.2.at.stands;
                sized = record { count = z.count; dims = z.dims; factors = z.factors; short = z.short; wide = z.wide };
                shows = x.2.at.shows;
                fewer = x.2.at.fewer;
              };
              whole = record {
                long = d.stands.long ∙ ap (λ v. length v.items) (sym ep);
                widths = d.stands.widths ∙ ap (λ v. widths_of v.items) (sym ep);
              };
            } in
            subst (λ (r : Ran). Ends t0.budget (Ok tt) (r >>= phases []) (λ w. After t3 sources r2 steps3 (after_phases p.context (ph ∷ [])) w)) (sym (lines_are ∙ x.1)) after

pub typed_later : (g : Context) (xs ys : List PhaseTree) → TypedPhases g (xs ++ ys) → TypedPhases (after_phases g xs) ys
typed_later g [] ys h = h
typed_later g (x ∷ xs) ys h = typed_later (after_phase g x) xs ys h.3

fits_later : (xs ys : List PhaseTree) → FitsPhases (xs ++ ys) → FitsPhases ys
fits_later [] ys h = h
fits_later (x ∷ xs) ys h = fits_later xs ys h.4

context_later : (g : Context) (xs ys : List PhaseTree) → after_phases g (xs ++ ys) ≡ after_phases (after_phases g xs) ys
context_later g [] ys = refl
context_later g (x ∷ xs) ys = context_later (after_phase g x) xs ys

count_later : (xs ys : List PhaseTree) → count_makes (xs ++ ys) ≡ count_makes xs + count_makes ys
count_later [] ys = omega arith
count_later (x ∷ xs) ys = omega (arith, count_later xs ys)

module _ (xs : List PhaseTree) (i : ℕ) (x : PhaseTree) (lt : i < length xs) (at : x ≡ get_or xs i x) where
  rest_is : xs ≡ take i xs ++ x ∷ drop (suc i) xs
  rest_is = sym (take-append-drop i xs) ∙ ap (λ (ys : List PhaseTree). take i xs ++ ys) (drop-cons xs i x lt ∙ ap (λ (y : PhaseTree). y ∷ drop (suc i) xs) (sym at))

  front_is : take (i + 1) xs ≡ take i xs ++ x ∷ []
  front_is = take_more xs i x lt ∙ ap (λ (y : PhaseTree). take i xs ++ y ∷ []) (sym at)

  pub phase_typed : (g : Context) → TypedPhases g xs → TypedPhases (after_phases g (take i xs)) (x ∷ [])
  phase_typed g h =
      let k = typed_later g (take i xs) (x ∷ drop (suc i) xs) (subst (λ (ys : List PhaseTree). TypedPhases g ys) rest_is h) in
      (k.0, k.1, k.2, tt)

  pub phase_fits : FitsPhases xs → FitsPhases (x ∷ [])
  phase_fits h =
      let k = fits_later (take i xs) (x ∷ drop (suc i) xs) (subst (λ (ys : List PhaseTree). FitsPhases ys) rest_is h) in
      (k.0, k.1, k.2, k.3, tt)

  pub phase_context : (g : Context) → after_phases g (take (i + 1) xs) ≡ after_phases (after_phases g (take i xs)) (x ∷ [])
  phase_context g = ap (λ (ys : List PhaseTree). after_phases g ys) front_is ∙ context_later g (take i xs) (x ∷ [])

  pub count_more : count_makes (take (i + 1) xs) ≡ count_makes (take i xs) + count_makes (x ∷ [])
  count_more = ap count_makes front_is ∙ count_later (take i xs) (x ∷ [])

  pub count_less : count_makes (take i xs) + count_makes (x ∷ []) ≤ count_makes xs
  count_less = omega (arith, ap count_makes rest_is, count_later (take i xs) (x ∷ drop (suc i) xs))

pub tree_at : (xs : List Phase) (i : ℕ) (x : Phase) → i < length xs → x ≡ get_or xs i x → phase_tree x ≡ get_or (map phase_tree xs) i (phase_tree x)
tree_at [] i x lt e = absurd (omega (arith, lt))
tree_at (y ∷ xs) zero x lt e = ap phase_tree e
tree_at (y ∷ xs) (suc i) x lt e = tree_at xs i x (omega (arith, lt)) e

pub tree_lt : (xs : List Phase) (i : ℕ) → i < length xs → i < length (map phase_tree xs)
tree_lt xs i lt = omega (arith, lt, length-map xs phase_tree)
