use Rattle.std.proofs.Common.{◌≡◌, ◌≤◌, arith, ◌∙◌, sym, ap, subst, map, length, List, Ok, Err}
use Rattle.std.proofs.lemmas.Result.{err_from_is_err_and}
use Rattle.us_raw.specs.Plan.{widths_of}
use Rattle.us_code.specs.declared.program.Phase.{Phase}
use Rattle.us_code.specs.declared.program.Program.{Program}
use Rattle.us_code.specs.Plain.{phase_tree, program_tree}
use Rattle.us_machine.specs.Phases.{CanRun, Runs}
use Rattle.us_machine.specs.Walks.{bufs_of}
use Rattle.us_machine.proofs.PlanOfSources.{are_sources, is_plan}
use Rattle.us_machine.proofs.RunSteps.{runs_from, run_stops, stands_after, run_over, run_gives}
use Rattle.us_machine.proofs.running.run.Goals as goal

pub run_phases-requires : goal.run_phases-requires
run_phases-requires c =
    let few : length c.args.source.now ≤ 4096 = omega (arith, c.requires.count, c.program-program.ensures.limits.sources) in
    let are = are_sources c.args.source.now few c.requires.short in
    let n = c.in_ok-tables.ensures.names in
    let plan = c.in_ok-tables.ensures.plan in
    let w : c.in_ok-region.region.widths ≡ widths_of c.in_ok-tables.tables.plan.items = c.in_ok-region.ensures.1 ∙ ap widths_of c.as_slice.ensures.value in
    subst (λ (ps : List Phase). CanRun c.in_ok-tables.tables c.args.source.now c.in_ok-region.region 0 (map phase_tree ps)) (sym (c.as_slice-phases.ensures ∙ ap (λ (p : Program). p.phases) c.program-program.ensures.same)) (runs_from c.in_ok-tables.tables c.args.source.now c.in_ok-region.region are plan n.0 n.1 n.2 (is_plan c.args.source.now c.in_ok-tables.tables.plan.items are plan) c.in_ok-region.ensures.0 w (program_tree c.args.code.now) c.requires.count c.program-program.ensures.typed c.program-program.ensures.limits c.args.budget c.in_ok-tables.ensures.budget)

pub returns-in_err-run_phases : goal.returns-in_err-run_phases
returns-in_err-run_phases c =
    let few : length c.args.source.now ≤ 4096 = omega (arith, c.requires.count, c.program-program.ensures.limits.sources) in
    let are = are_sources c.args.source.now few c.requires.short in
    let n = c.in_ok-tables.ensures.names in
    let plan = c.in_ok-tables.ensures.plan in
    let w : c.in_ok-region.region.widths ≡ widths_of c.in_ok-tables.tables.plan.items = c.in_ok-region.ensures.1 ∙ ap widths_of c.as_slice.ensures.value in
    let q = err_from_is_err_and c.from_residual-in_err-run_phases.result c.from_residual-in_err-run_phases.ensures.1 in
    rw (q.1, q.2) (run_stops c.in_ok-tables.tables c.args.source.now c.in_ok-region.region are plan n.0 n.1 n.2 (is_plan c.args.source.now c.in_ok-tables.tables.plan.items are plan) c.in_ok-region.ensures.0 w (program_tree c.args.code.now) c.requires.count c.program-program.ensures.typed c.program-program.ensures.limits c.args.budget c.in_ok-tables.ensures.budget c.run_phases.new.tables c.run_phases.new.region c.run_phases.new.steps c.in_err-run_phases.field-0.0 (subst (λ (ps : List Phase). Runs c.in_ok-tables.tables c.run_phases.new.tables c.args.source.now c.in_ok-region.region c.run_phases.new.region (Err c.in_err-run_phases.field-0.0) 0 c.run_phases.new.steps (map phase_tree ps)) (c.as_slice-phases.ensures ∙ ap (λ (p : Program). p.phases) c.program-program.ensures.same) c.in_err-run_phases.ensures.runs))

pub returns-then-is_over : goal.returns-then-is_over
returns-then-is_over c =
    let few : length c.args.source.now ≤ 4096 = omega (arith, c.requires.count, c.program-program.ensures.limits.sources) in
    let are = are_sources c.args.source.now few c.requires.short in
    let n = c.in_ok-tables.ensures.names in
    let plan = c.in_ok-tables.ensures.plan in
    let w : c.in_ok-region.region.widths ≡ widths_of c.in_ok-tables.tables.plan.items = c.in_ok-region.ensures.1 ∙ ap widths_of c.as_slice.ensures.value in
    run_over c.in_ok-tables.tables c.args.source.now c.in_ok-region.region are plan n.0 n.1 n.2 (is_plan c.args.source.now c.in_ok-tables.tables.plan.items are plan) c.in_ok-region.ensures.0 w (program_tree c.args.code.now) c.requires.count c.program-program.ensures.typed c.program-program.ensures.limits c.args.budget c.in_ok-tables.ensures.budget c.run_phases.new.tables c.run_phases.new.region c.run_phases.new.steps (subst (λ (ps : List Phase). Runs c.in_ok-tables.tables c.run_phases.new.tables c.args.source.now c.in_ok-region.region c.run_phases.new.region (Ok tt) 0 c.run_phases.new.steps (map phase_tree ps)) (c.as_slice-phases.ensures ∙ ap (λ (p : Program). p.phases) c.program-program.ensures.same) c.in_ok-run_phases.ensures.runs) c.run_phases.ensures.budget (sym c.is_over.ensures.over ∙ c.if-is_over.true)

pub given-requires : goal.given-requires
given-requires c =
    let few : length c.args.source.now ≤ 4096 = omega (arith, c.requires.count, c.program-program.ensures.limits.sources) in
    let are = are_sources c.args.source.now few c.requires.short in
    let n = c.in_ok-tables.ensures.names in
    let plan = c.in_ok-tables.ensures.plan in
    let w : c.in_ok-region.region.widths ≡ widths_of c.in_ok-tables.tables.plan.items = c.in_ok-region.ensures.1 ∙ ap widths_of c.as_slice.ensures.value in
    stands_after c.in_ok-tables.tables c.args.source.now c.in_ok-region.region are plan n.0 n.1 n.2 (is_plan c.args.source.now c.in_ok-tables.tables.plan.items are plan) c.in_ok-region.ensures.0 w (program_tree c.args.code.now) c.requires.count c.program-program.ensures.typed c.program-program.ensures.limits c.args.budget c.in_ok-tables.ensures.budget c.run_phases.new.tables c.run_phases.new.region c.run_phases.new.steps (subst (λ (ps : List Phase). Runs c.in_ok-tables.tables c.run_phases.new.tables c.args.source.now c.in_ok-region.region c.run_phases.new.region (Ok tt) 0 c.run_phases.new.steps (map phase_tree ps)) (c.as_slice-phases.ensures ∙ ap (λ (p : Program). p.phases) c.program-program.ensures.same) c.in_ok-run_phases.ensures.runs) c.run_phases.ensures.budget

pub returns : goal.returns
returns c =
    let few : length c.args.source.now ≤ 4096 = omega (arith, c.requires.count, c.program-program.ensures.limits.sources) in
    let are = are_sources c.args.source.now few c.requires.short in
    let n = c.in_ok-tables.ensures.names in
    let plan = c.in_ok-tables.ensures.plan in
    let w : c.in_ok-region.region.widths ≡ widths_of c.in_ok-tables.tables.plan.items = c.in_ok-region.ensures.1 ∙ ap widths_of c.as_slice.ensures.value in
    run_gives c.in_ok-tables.tables c.args.source.now c.in_ok-region.region are plan n.0 n.1 n.2 (is_plan c.args.source.now c.in_ok-tables.tables.plan.items are plan) c.in_ok-region.ensures.0 w (program_tree c.args.code.now) c.requires.count c.program-program.ensures.typed c.program-program.ensures.limits c.args.budget c.in_ok-tables.ensures.budget c.run_phases.new.tables c.run_phases.new.region c.run_phases.new.steps (subst (λ (ps : List Phase). Runs c.in_ok-tables.tables c.run_phases.new.tables c.args.source.now c.in_ok-region.region c.run_phases.new.region (Ok tt) 0 c.run_phases.new.steps (map phase_tree ps)) (c.as_slice-phases.ensures ∙ ap (λ (p : Program). p.phases) c.program-program.ensures.same) c.in_ok-run_phases.ensures.runs) c.run_phases.ensures.budget (sym c.is_over.ensures.over ∙ c.if-is_over.false) c.is_over.ensures.word c.in_ok-buffers.buffers
    (c.in_ok-buffers.ensures ∙ ap (map (bufs_of c.run_phases.new.tables c.run_phases.new.region)) (c.as_slice-2.ensures ∙ ap (λ (p : Program). p.give) c.program-program.ensures.same))
