use Rattle.std.proofs.Common.{sym, subst, map, List, [], ◌∷◌, Ok, Err}
use Rattle.std.proofs.lemmas.Result.{err_from_is_err_and}
use Rattle.us_code.specs.declared.program.Make.{Make}
use Rattle.us_code.specs.declared.program.DimLine.{DimLine}
use Rattle.us_code.specs.Plain.{line_tree, phase_tree}
use Rattle.us_code.specs.Typing.{with_bufs, after_phases}
use Rattle.us_machine.specs.Tables.{regs_of}
use Rattle.us_machine.specs.Phases.{CanBegin, CanName, Makes, Names, Next, After}
use Rattle.us_machine.proofs.PhaseSteps.{can_begin, makes_stop, block_stop, can_name, lines_stop, phase_ends}
use Rattle.us_machine.proofs.phases.run_phase.Goals as goal

pub make_lists-requires : goal.make_lists-requires
make_lists-requires c = subst (λ (ms : List Make). CanBegin c.args.tables.now c.args.source.now c.args.region.now c.args.steps.now ms) (sym c.as_slice.ensures) (can_begin c.args.tables.now c.args.source.now c.args.region.now c.args.steps.now (phase_tree c.args.phase.now) c.requires)

pub returns-in_err-make_lists-clause-runs : goal.returns-in_err-make_lists-clause-runs
returns-in_err-make_lists-clause-runs c =
    let q = err_from_is_err_and c.from_residual.result c.from_residual.ensures.1 in
    let e = c.in_err-make_lists.field-0.0 in
    let m : Makes c.args.tables.now c.make_lists.new.tables c.args.source.now (Err e) c.args.steps.now c.make_lists.new.steps c.args.phase.now.makes = subst (λ (ms : List Make). Makes c.args.tables.now c.make_lists.new.tables c.args.source.now (Err e) c.args.steps.now c.make_lists.new.steps ms) c.as_slice.ensures c.in_err-make_lists.ensures.makes in
    rw (q.1, q.2) (λ p at here empty typed.
    makes_stop c.args.tables.now c.args.source.now c.args.region.now c.args.steps.now (phase_tree c.args.phase.now) p c.args.tables.now.budget e (λ w. Next c.make_lists.new.tables c.args.source.now c.make_lists.new.steps p (with_bufs p.context c.args.phase.now.makes) w) (λ w. After c.make_lists.new.tables c.args.source.now c.make_lists.new.region c.make_lists.new.steps (after_phases p.context (phase_tree c.args.phase.now ∷ [])) w) (m p at typed.0))

pub returns-in_err-run_block-clause-runs : goal.returns-in_err-run_block-clause-runs
returns-in_err-run_block-clause-runs c =
    let q = err_from_is_err_and c.from_residual-in_err-run_block.result c.from_residual-in_err-run_block.ensures.1 in
    let m : Makes c.args.tables.now c.make_lists.new.tables c.args.source.now (Ok tt) c.args.steps.now c.make_lists.new.steps c.args.phase.now.makes = subst (λ (ms : List Make). Makes c.args.tables.now c.make_lists.new.tables c.args.source.now (Ok tt) c.args.steps.now c.make_lists.new.steps ms) c.as_slice.ensures c.in_ok-make_lists.ensures.makes in
    rw (q.1, q.2) (λ p at here empty typed.
    block_stop c.args.tables.now c.args.source.now c.args.region.now c.args.steps.now (phase_tree c.args.phase.now) c.make_lists.new.tables c.make_lists.new.region c.make_lists.new.steps m c.in_ok-make_lists.ensures.region c.make_lists.ensures.budget p at here empty typed (regs_of c.in_ok-regs.regs) c.in_ok-regs.ensures c.in_err-run_block.field-0.0 c.run_block.new.region (regs_of c.run_block.new.regs) c.run_block.new.steps (λ w. After c.make_lists.new.tables c.args.source.now c.run_block.new.region c.run_block.new.steps (after_phases p.context (phase_tree c.args.phase.now ∷ [])) w) c.in_err-run_block.ensures)

pub run_lines-requires : goal.run_lines-requires
run_lines-requires c =
    let m : Makes c.args.tables.now c.make_lists.new.tables c.args.source.now (Ok tt) c.args.steps.now c.make_lists.new.steps c.args.phase.now.makes = subst (λ (ms : List Make). Makes c.args.tables.now c.make_lists.new.tables c.args.source.now (Ok tt) c.args.steps.now c.make_lists.new.steps ms) c.as_slice.ensures c.in_ok-make_lists.ensures.makes in
    subst (λ (ls : List DimLine). CanName c.make_lists.new.tables c.args.source.now c.run_block.new.steps (regs_of c.run_block.new.regs) (map line_tree ls)) (sym c.as_slice-2.ensures)
    (can_name c.args.tables.now c.args.source.now c.args.region.now c.args.steps.now (phase_tree c.args.phase.now) c.make_lists.new.tables c.make_lists.new.region c.make_lists.new.steps m c.in_ok-make_lists.ensures.region c.make_lists.ensures.budget c.requires.point c.requires.at c.requires.here c.requires.empty c.requires.typed (regs_of c.in_ok-regs.regs) c.in_ok-regs.ensures c.run_block.new.region (regs_of c.run_block.new.regs) c.run_block.new.steps c.in_ok-run_block.ensures c.requires.fits.3)

pub returns-in_err-run_lines-clause-runs : goal.returns-in_err-run_lines-clause-runs
returns-in_err-run_lines-clause-runs c =
    let q = err_from_is_err_and c.from_residual-in_err-run_lines.result c.from_residual-in_err-run_lines.ensures.1 in
    let m : Makes c.args.tables.now c.make_lists.new.tables c.args.source.now (Ok tt) c.args.steps.now c.make_lists.new.steps c.args.phase.now.makes = subst (λ (ms : List Make). Makes c.args.tables.now c.make_lists.new.tables c.args.source.now (Ok tt) c.args.steps.now c.make_lists.new.steps ms) c.as_slice.ensures c.in_ok-make_lists.ensures.makes in
    rw (q.1, q.2) (λ p at here empty typed.
    lines_stop c.args.tables.now c.args.source.now c.args.region.now c.args.steps.now (phase_tree c.args.phase.now) c.make_lists.new.tables c.make_lists.new.region c.make_lists.new.steps m c.in_ok-make_lists.ensures.region c.make_lists.ensures.budget p at here empty typed (regs_of c.in_ok-regs.regs) c.in_ok-regs.ensures c.run_block.new.region (regs_of c.run_block.new.regs) c.run_block.new.steps c.in_ok-run_block.ensures c.run_lines.new.tables c.run_lines.new.steps c.in_err-run_lines.field-0.0 (λ w. After c.run_lines.new.tables c.args.source.now c.run_block.new.region c.run_lines.new.steps (after_phases p.context (phase_tree c.args.phase.now ∷ [])) w) (subst (λ (ls : List DimLine). Names c.make_lists.new.tables c.run_lines.new.tables c.args.source.now (Err c.in_err-run_lines.field-0.0) c.run_block.new.steps c.run_lines.new.steps (regs_of c.run_block.new.regs) (map line_tree ls)) c.as_slice-2.ensures c.in_err-run_lines.ensures.names))

pub returns-clause-runs : goal.returns-clause-runs
returns-clause-runs c =
    let m : Makes c.args.tables.now c.make_lists.new.tables c.args.source.now (Ok tt) c.args.steps.now c.make_lists.new.steps c.args.phase.now.makes = subst (λ (ms : List Make). Makes c.args.tables.now c.make_lists.new.tables c.args.source.now (Ok tt) c.args.steps.now c.make_lists.new.steps ms) c.as_slice.ensures c.in_ok-make_lists.ensures.makes in
    λ p at here empty typed.
    phase_ends c.args.tables.now c.args.source.now c.args.region.now c.args.steps.now (phase_tree c.args.phase.now) c.make_lists.new.tables c.make_lists.new.region c.make_lists.new.steps m c.in_ok-make_lists.ensures.region c.make_lists.ensures.budget p at here empty typed (regs_of c.in_ok-regs.regs) c.in_ok-regs.ensures c.run_block.new.region (regs_of c.run_block.new.regs) c.run_block.new.steps c.in_ok-run_block.ensures c.run_lines.new.tables c.run_lines.new.steps c.run_lines.ensures.budget c.run_lines.ensures.plan (subst (λ (ls : List DimLine). Names c.make_lists.new.tables c.run_lines.new.tables c.args.source.now (Ok tt) c.run_block.new.steps c.run_lines.new.steps (regs_of c.run_block.new.regs) (map line_tree ls)) c.as_slice-2.ensures c.in_ok-run_lines.ensures.names)
