-- A run, from its beginning to its answer.
use Rattle.std.proofs.Common.{◌≡◌, ℕ, ◌<◌, ◌≤◌, ◌^◌, Bool, true, false, ◌&&◌, nat_lt, List, [], ◌∷◌, map, length, ℤ, refl, sym, ap, ◌∙◌, subst, arith, Ok, Err, Option, Some, None}
use Rattle.std.proofs.lemmas.Bool.Decides.{nat_tests}
use Rattle.us_raw.specs.Plan.{IsPlan, widths_of}
use Rattle.us_raw.specs.Region.{Lists}
use Rattle.us_code.specs.Plain.{ProgramTree}
use Rattle.us_code.specs.Limits.{KeepsLimits}
use Rattle.us_code.specs.Runs.{World, Ran, Went, outcome, phases, start}
use Rattle.us_code.specs.Typing.{Context, TypedProgram, TypedPhases, before, after_phases}
use Rattle.us_code_laws.proofs.Sound.{and_left, and_right}
use Rattle.us_code_laws.proofs.Programs.{typed_programs_run}
use Rattle.us_machine.specs.declared.budget.Budget.{Budget}
use Rattle.us_machine.specs.declared.stop.RunStop.{RunStop}
use Rattle.us_machine.specs.declared.stop.RunStop.TheVariants.{OutOfSteps}
use Rattle.us_machine.specs.declared.tables.Tables.{Tables}
use Rattle.us_machine.specs.Answer.{IsAnswer, outcome_of}
use Rattle.us_machine.specs.Starting.{AreSources, IsSourcePlan}
use Rattle.us_machine.specs.Steps.{Shows, budget_of}
use Rattle.us_machine.specs.Tables.{held}
use Rattle.us_machine.specs.Walks.{Stands, bufs_of}
use Rattle.us_machine.specs.Phases.{grown_in, Point, world_at, Ends, After, Runs, CanRun}
use Rattle.us_machine.proofs.Begin.{beginning, at_beginning, can_run, start_is, begins_here, begins_empty, begins_before}
use Rattle.us_machine.proofs.Finish.{limited, stops, over, gives}
use Rattle.us_machine.proofs.PhaseSteps.{whole_is}
use Rattle.us_machine.proofs.Series.{ended}

outcome_is : (p : ProgramTree) (sources : List (List ℤ)) (o : Option ℕ) → outcome_of p sources o ≡ limited o (outcome p.give (phases p.phases (start sources)))
outcome_is p sources None = refl
outcome_is p sources (Some n) = refl

lt_of : (a b : ℕ) → nat_lt a b ≡ true → a < b
lt_of a b h = grind (arith, nat_tests)

not_over : (b : Bool) (a c : ℕ) → b && nat_lt a c ≡ false → b ≡ true → c ≤ a
not_over true a c h e = grind (arith, nat_tests)
not_over false a c h e = absurd cc

module _ (t : Tables) (sources : List (List ℤ)) (r : Lists) (are : AreSources sources) (plan : IsSourcePlan sources (length sources) t.plan.items)
    (dims : held t.dims ≡ (λ _. 0)) (factors : held t.factors ≡ (λ _. 0)) (segs : held t.segs ≡ (λ _. 0)) (few : IsPlan t.plan.items)
    (lists : r.lists ≡ [] ∷ sources) (widths : r.widths ≡ widths_of t.plan.items)
    (p : ProgramTree) (count : length sources ≡ p.sources) (typed : TypedProgram p) (limits : KeepsLimits p) (o : Option ℕ) (budget : t.budget ≡ budget_of o) where
  P : Point
  P = beginning t sources r are plan dims factors segs few lists widths

  typed_here : TypedPhases (before (length sources)) p.phases
  typed_here = subst (λ (n : ℕ). TypedPhases (before n) p.phases) (sym count) typed.0

  pub runs_from : CanRun t sources r 0 p.phases
  runs_from = can_run t sources r are plan dims factors segs few lists widths 0 refl p.phases typed_here limits.phases limits.items

  typed_at : TypedPhases P.context p.phases
  unfolding P
  typed_at = subst (λ (g : Context). TypedPhases g p.phases) (sym (begins_before t sources r are plan dims factors segs few lists widths)) typed_here

  from_start : world_at t sources P ≡ start sources
  unfolding P
  from_start = start_is t sources r are plan dims factors segs few lists widths

  module _ (u : Tables) (s : Lists) (steps : ℕ) where
    pub run_stops : (e : RunStop) → Runs t u sources r s (Err e) 0 steps p.phases → IsAnswer (Err e) (outcome_of p sources o)
    unfolding P
    run_stops e h =
        let Q : World → Type 0 = λ w. After u sources s steps (after_phases P.context p.phases) w in
        let a : Ends t.budget (Err e) (phases p.phases (world_at t sources P)) Q =
        h P (at_beginning t sources r are plan dims factors segs few lists widths 0 refl) (begins_here t sources r are plan dims factors segs few lists widths) (begins_empty t sources r are plan dims factors segs few lists widths) typed_at in
        let b : Ends (budget_of o) (Err e) (phases p.phases (start sources)) Q =
        subst (λ (w : World). Ends (budget_of o) (Err e) (phases p.phases w) Q) from_start (subst (λ (x : Budget). Ends x (Err e) (phases p.phases (world_at t sources P)) Q) budget a) in
        subst (λ (x : _). IsAnswer (Err e) x) (sym (outcome_is p sources o)) (stops o e (phases p.phases (start sources)) p.give Q (typed_programs_run p sources typed) b)

    module _ (h : Runs t u sources r s (Ok tt) 0 steps p.phases) (same : u.budget ≡ t.budget) where
      done : (w : World) × (phases p.phases (world_at t sources P) ≡ Went w) × After u sources s steps (after_phases P.context p.phases) w
      unfolding P
      done = ended t.budget tt (phases p.phases (world_at t sources P)) (λ w. After u sources s steps (after_phases P.context p.phases) w)
          (h P (at_beginning t sources r are plan dims factors segs few lists widths 0 refl) (begins_here t sources r are plan dims factors segs few lists widths) (begins_empty t sources r are plan dims factors segs few lists widths) typed_at)

      went : phases p.phases (start sources) ≡ Went done.0
      went = ap (phases p.phases) (sym from_start) ∙ done.1

      answer_is : outcome_of p sources o ≡ limited o (outcome p.give (Went done.0))
      answer_is = outcome_is p sources o ∙ ap (λ (x : Ran). limited o (outcome p.give x)) went

      shown : Shows (budget_of o) steps done.2.point.count
      shown = subst (λ (b : Budget). Shows b steps done.2.point.count) (same ∙ budget) done.2.at.shows

      steps_are : done.0.steps ≡ done.2.point.count
      steps_are = ap (λ (w : World). w.steps) done.2.world

      here : grown_in u done.2.point.region ≡ s
      here = ap (grown_in u) done.2.here ∙ whole_is u s done.2.whole

      pub stands_after : Stands u sources s
      stands_after = subst (λ (l : Lists). Stands u sources l) here done.2.at.stands

      bufs_are : done.0.bufs ≡ bufs_of u s
      bufs_are = ap (λ (w : World). w.bufs) done.2.world ∙ ap (bufs_of u) here

      limit_is : u.budget ≡ budget_of o
      limit_is = same ∙ budget

      pub run_over : u.budget.bounded && nat_lt u.budget.limit steps ≡ true → IsAnswer (Err OutOfSteps) (outcome_of p sources o)
      run_over e =
          let f : (budget_of o).bounded && nat_lt (budget_of o).limit steps ≡ true = subst (λ (b : Budget). b.bounded && nat_lt b.limit steps ≡ true) limit_is e in
          subst (λ (x : _). IsAnswer (Err OutOfSteps) x) (sym answer_is)
          (over o p.give done.0 steps done.2.point.count steps_are shown (and_left (budget_of o).bounded (nat_lt (budget_of o).limit steps) f) (lt_of (budget_of o).limit steps (and_right (budget_of o).bounded (nat_lt (budget_of o).limit steps) f)))

      pub run_gives : u.budget.bounded && nat_lt u.budget.limit steps ≡ false → steps < 2 ^ 64 → (xs : List (List ℤ)) → xs ≡ map (bufs_of u s) p.give → IsAnswer (Ok record { buffers = xs; steps = steps }) (outcome_of p sources o)
      run_gives e small xs is =
          let f : (budget_of o).bounded && nat_lt (budget_of o).limit steps ≡ false = subst (λ (b : Budget). b.bounded && nat_lt b.limit steps ≡ false) limit_is e in
          subst (λ (x : _). IsAnswer (Ok record { buffers = xs; steps = steps }) x) (sym answer_is)
          (gives o p.give done.0 steps done.2.point.count xs steps_are shown small (not_over (budget_of o).bounded (budget_of o).limit steps f) (is ∙ ap (λ (g : ℕ → List ℤ). map g p.give) (sym bufs_are)))
