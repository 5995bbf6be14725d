use Rattle.std.proofs.Common.{◌≡◌, ◌<◌, arith, ◌∙◌, sym, ap, subst, map, length, get_or, [], ◌∷◌, refl, Err}
use Rattle.std.proofs.lemmas.Result.{err_from_is_err_and}
use Rattle.us_code.specs.Plain.{PhaseTree, phase_tree}
use Rattle.us_code.specs.Runs.{Went, phase, phases}
use Rattle.us_code.specs.Typing.{Context, TypedPhases, after_phases}
use Rattle.us_machine.specs.declared.budget.Budget.{Budget}
use Rattle.us_machine.specs.Phases.{After, Ends, world_at}
use Rattle.us_machine.proofs.PhaseSteps.{phase_typed, phase_fits, phase_context, count_more, count_less, tree_at, tree_lt}
use Rattle.us_machine.proofs.Series.{later_phases, ended, all_more, all_stopped}
use Rattle.us_machine.proofs.phases.run_phases.Goals as goal

pub loop-phase-init : goal.loop-phase-init
loop-phase-init c = record {
  reached = λ p at here empty typed. ((world_at c.args.tables.now c.args.source.now p), refl, record { point = p; here = here; empty = empty; context = refl; world = refl; at = at; whole = c.requires.whole });
  budget = refl;
  plan = omega arith;
}

pub run_phase-requires : goal.run_phase-requires
run_phase-requires c =
    let x : PhaseTree = phase_tree c.phase-item.result in
    let ps = map phase_tree c.args.phases.now in
    let lt : c.loop-phase.phase-index < length ps = tree_lt c.args.phases.now c.loop-phase.phase-index (omega arith) in
    let is : x ≡ get_or ps c.loop-phase.phase-index x = tree_at c.args.phases.now c.loop-phase.phase-index c.phase-item.result (omega arith) c.phase-item.is in
    let r = c.loop-phase.invariant.reached c.requires.point c.requires.at c.requires.here c.requires.empty c.requires.typed in
    record {
      point = r.2.point;
      at = r.2.at;
      here = r.2.here;
      empty = r.2.empty;
      whole = r.2.whole;
      typed = subst (λ (g : Context). TypedPhases g (x ∷ [])) (sym r.2.context) (phase_typed ps c.loop-phase.phase-index x lt is c.requires.point.context c.requires.typed);
      fits = phase_fits ps c.loop-phase.phase-index x lt is c.requires.fits;
      room = omega (arith, c.requires.room, c.loop-phase.invariant.plan, count_less ps c.loop-phase.phase-index x lt is);
    }

pub returns-in_err-run_phase-clause-runs : goal.returns-in_err-run_phase-clause-runs
returns-in_err-run_phase-clause-runs c =
    let x : PhaseTree = phase_tree c.phase-item.result in
    let ps = map phase_tree c.args.phases.now in
    let lt : c.loop-phase.phase-index < length ps = tree_lt c.args.phases.now c.loop-phase.phase-index (omega arith) in
    let is : x ≡ get_or ps c.loop-phase.phase-index x = tree_at c.args.phases.now c.loop-phase.phase-index c.phase-item.result (omega arith) c.phase-item.is in
    let q = err_from_is_err_and c.from_residual.result c.from_residual.ensures.1 in
    rw (q.1, q.2) (λ p at here empty typed.
    let r = c.loop-phase.invariant.reached p at here empty typed in
    let h = c.in_err-run_phase.ensures.runs r.2.point r.2.at r.2.here r.2.empty (subst (λ (g : Context). TypedPhases g (x ∷ [])) (sym r.2.context) (phase_typed ps c.loop-phase.phase-index x lt is p.context typed)) in
    subst (λ (b : Budget). Ends b (Err c.in_err-run_phase.field-0.0) (phases ps (world_at c.args.tables.now c.args.source.now p)) (λ w. After c.run_phase.new.tables c.args.source.now c.run_phase.new.region c.run_phase.new.steps (after_phases p.context ps) w)) c.loop-phase.invariant.budget
    (all_stopped phases phase (λ w. refl) (λ y ys w. refl) later_phases ps c.loop-phase.phase-index x (world_at c.args.tables.now c.args.source.now p) (world_at c.loop-phase.tables c.args.source.now r.2.point) lt is (r.1 ∙ ap Went r.2.world) c.loop-phase.tables.budget c.in_err-run_phase.field-0.0
    (λ w. After c.run_phase.new.tables c.args.source.now c.run_phase.new.region c.run_phase.new.steps (after_phases r.2.point.context (x ∷ [])) w) (λ w. After c.run_phase.new.tables c.args.source.now c.run_phase.new.region c.run_phase.new.steps (after_phases p.context ps) w) h))

pub loop-phase-preserved : goal.loop-phase-preserved
loop-phase-preserved c =
    let x : PhaseTree = phase_tree c.phase-item.result in
    let ps = map phase_tree c.args.phases.now in
    let lt : c.loop-phase.phase-index < length ps = tree_lt c.args.phases.now c.loop-phase.phase-index (omega arith) in
    let is : x ≡ get_or ps c.loop-phase.phase-index x = tree_at c.args.phases.now c.loop-phase.phase-index c.phase-item.result (omega arith) c.phase-item.is in
    record {
      reached = λ p at here empty typed.
          let r = c.loop-phase.invariant.reached p at here empty typed in
          let h = c.in_ok-run_phase.ensures.runs r.2.point r.2.at r.2.here r.2.empty (subst (λ (g : Context). TypedPhases g (x ∷ [])) (sym r.2.context) (phase_typed ps c.loop-phase.phase-index x lt is p.context typed)) in
          let d = ended c.loop-phase.tables.budget tt (phases (x ∷ []) (world_at c.loop-phase.tables c.args.source.now r.2.point)) (λ w. After c.run_phase.new.tables c.args.source.now c.run_phase.new.region c.run_phase.new.steps (after_phases r.2.point.context (x ∷ [])) w) h in (
            d.0,
            all_more phases phase (λ w. refl) (λ y ys w. refl) later_phases ps c.loop-phase.phase-index x (world_at c.args.tables.now c.args.source.now p) (world_at c.loop-phase.tables c.args.source.now r.2.point) lt is (r.1 ∙ ap Went r.2.world) ∙ d.1,
            record {
              point = d.2.point;
              here = d.2.here;
              empty = d.2.empty;
              context = d.2.context ∙ (ap (λ (g : Context). after_phases g (x ∷ [])) r.2.context ∙ sym (phase_context ps c.loop-phase.phase-index x lt is p.context));
              world = d.2.world;
              at = d.2.at;
              whole = d.2.whole;
            },
          );
      budget = c.run_phase.ensures.budget ∙ c.loop-phase.invariant.budget;
      plan = omega (arith, c.in_ok-run_phase.ensures.plan, c.loop-phase.invariant.plan, count_more ps c.loop-phase.phase-index x lt is);
    }
