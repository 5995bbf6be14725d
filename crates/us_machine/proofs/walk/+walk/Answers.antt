use Rattle.std.proofs.Common.{rules, arith, ◌≡◌, ◌+◌, ◌-◌, ◌<◌, ◌^◌, ℕ, sym, ap, ◌∙◌, subst, pos, ℤ, w64, to_z, of_z, Some, None, List, FitsSigned}
use Rattle.std.specs.Int.{cast_unsigned}
use Rattle.std.proofs.lemmas.Int.{to_z-of_z, to_z_pos}
use Rattle.std.proofs.lemmas.Result.{err_from_is_err_and}
use Rattle.us_code.specs.declared.program.Stmt.{the_lemmas}
use Rattle.us_code.specs.Plain.{Code, term_tree, alone, tree_of, other_tree, was_given}
use Rattle.us_code.specs.Plain as plain
use Rattle.us_code.specs.declared.program.Buf.{Buf}
use Rattle.us_code.specs.Run.{put, exec, value, turns, place, test}
use Rattle.us_code.proofs.Trees.{tree_slice, alone_let, alone_load, alone_var, alone_put, alone_set, alone_for, alone_span, alone_if, alone_when, alone_order}
use Rattle.us_machine.specs.Tables.{env_of, regs_of}
use Rattle.us_machine.specs.Walks.{Ready, state_of, turn_from}
use Rattle.us_machine.proofs.Readying.{evaluable, dim_sized}
use Rattle.us_machine.proofs.ArmSteps.{assigned, ran_as, leads_as, for_is, span_is, then_is, else_is, when_is, when_not_is, for_turning, span_ends, end_is, span_turning, then_ready, else_ready, when_ready, when_not_ready}
use Rattle.us_machine.proofs.Leading.{no_steps, costs_one}
use Rattle.us_machine.proofs.BlockSteps.{block_ready, block_begins, block_ends, stmt_first, block_stops, rest_ready, one_more}
use Rattle.us_machine.proofs.TurnSteps.{turn_charge_stops, body_ready, turn_stops, turns_more, still_turning}
use Rattle.us_machine.proofs.walk.+walk.Goals as goal

pub run_block-loop-stmt-init : goal.run_block-loop-stmt-init
run_block-loop-stmt-init t c = record {
  ready = block_ready c.args.tables.now c.args.source.now c.args.region.now (regs_of c.args.regs.now) c.args.steps.now c.as_slice-stmt-items.result.now c.args.block.now c.requires.0 (tree_slice c.args.block.now c.as_slice-stmt-items.result.now c.as_slice-stmt-items.ensures) c.requires.1;
  reached = block_begins c.args.tables.now c.args.source.now c.args.region.now (regs_of c.args.regs.now) c.args.steps.now c.as_slice-stmt-items.result.now c.requires.1.stands;
}

pub run_block-run_stmt-requires : goal.run_block-run_stmt-requires
run_block-run_stmt-requires t c = (search (rules, the_lemmas), (c.loop-stmt.invariant.ready.0, stmt_first c.args.tables.now c.args.source.now c.args.region.now (regs_of c.args.regs.now) c.args.steps.now c.as_slice-stmt-items.result.now c.loop-stmt.stmt-index c.stmt-item.result c.loop-stmt.region (regs_of c.loop-stmt.regs) c.loop-stmt.steps (omega arith) c.stmt-item.is c.loop-stmt.invariant.reached c.loop-stmt.invariant.ready.0 c.loop-stmt.invariant.ready.1))

pub run_block-returns-in_err-run_stmt : goal.run_block-returns-in_err-run_stmt
run_block-returns-in_err-run_stmt t c =
    let p = err_from_is_err_and c.from_residual.result c.from_residual.ensures.1 in
    rw (p.1, p.2) (block_stops c.args.tables.now c.args.source.now c.args.region.now (regs_of c.args.regs.now) c.args.steps.now c.as_slice-stmt-items.result.now c.loop-stmt.stmt-index c.stmt-item.result c.loop-stmt.region (regs_of c.loop-stmt.regs) c.loop-stmt.steps (omega arith) c.stmt-item.is c.loop-stmt.invariant.reached c.args.block.now (tree_slice c.args.block.now c.as_slice-stmt-items.result.now c.as_slice-stmt-items.ensures) c.in_err-run_stmt.field-0.0 c.run_stmt.new.region (regs_of c.run_stmt.new.regs) c.run_stmt.new.steps c.in_err-run_stmt.ensures)

pub run_block-loop-stmt-preserved : goal.run_block-loop-stmt-preserved
run_block-loop-stmt-preserved t c = record {
  ready = rest_ready c.args.tables.now c.args.source.now c.args.region.now (regs_of c.args.regs.now) c.args.steps.now c.as_slice-stmt-items.result.now c.loop-stmt.stmt-index c.stmt-item.result c.loop-stmt.region (regs_of c.loop-stmt.regs) c.loop-stmt.steps (omega arith) c.stmt-item.is c.loop-stmt.invariant.reached c.run_stmt.new.region (regs_of c.run_stmt.new.regs) c.run_stmt.new.steps c.in_ok-run_stmt.ensures c.loop-stmt.invariant.ready.0 c.loop-stmt.invariant.ready.1;
  reached = one_more c.args.tables.now c.args.source.now c.args.region.now (regs_of c.args.regs.now) c.args.steps.now c.as_slice-stmt-items.result.now c.loop-stmt.stmt-index c.stmt-item.result c.loop-stmt.region (regs_of c.loop-stmt.regs) c.loop-stmt.steps (omega arith) c.stmt-item.is c.loop-stmt.invariant.reached c.run_stmt.new.region (regs_of c.run_stmt.new.regs) c.run_stmt.new.steps c.in_ok-run_stmt.ensures;
}

pub run_block-returns : goal.run_block-returns
run_block-returns t c = block_ends c.args.tables.now c.args.source.now c.args.region.now (regs_of c.args.regs.now) c.args.steps.now c.as_slice-stmt-items.result.now c.args.block.now c.loop-stmt.stmt-index c.loop-stmt.region (regs_of c.loop-stmt.regs) c.loop-stmt.steps (omega arith) (tree_slice c.args.block.now c.as_slice-stmt-items.result.now c.as_slice-stmt-items.ensures) c.loop-stmt.invariant.reached

pub run_stmt-returns-in_err-charge : goal.run_stmt-returns-in_err-charge
run_stmt-returns-in_err-charge t c =
    let p = err_from_is_err_and c.from_residual.result c.from_residual.ensures.1 in
    rw (p.1, p.2) (λ n h. no_steps c.args.tables.now c.args.source.now c.in_err-charge.field-0.0 (exec (env_of c.args.tables.now c.args.source.now) (alone c.args.stmt.now) ((λ (n : ℕ). state_of c.args.tables.now c.args.region.now (regs_of c.args.regs.now) n) n)) c.args.region.now (regs_of c.args.regs.now) c.charge.new.steps c.in_err-charge.ensures.stop
    record { bounded = (c.in_err-charge.ensures.over n h).bounded; over = omega (arith, (c.in_err-charge.ensures.over n h).over, costs_one (env_of c.args.tables.now c.args.source.now) c.args.stmt.now ((λ (n : ℕ). state_of c.args.tables.now c.args.region.now (regs_of c.args.regs.now) n) n)) })

pub run_stmt-assign-requires : goal.run_stmt-assign-requires
run_stmt-assign-requires t c =
    let y : Ready c.args.tables.now c.args.source.now c.args.region.now (regs_of c.args.regs.now) c.requires.0 (plain.Let c.in-Let.reg (term_tree c.in-Let.value) plain.End) = subst (λ (b : Code). Ready c.args.tables.now c.args.source.now c.args.region.now (regs_of c.args.regs.now) c.requires.0 b) (ap alone c.in-Let.is ∙ alone_let c.in-Let.reg c.in-Let.value) c.requires.1 in
    evaluable c.args.tables.now c.args.source.now c.args.region.now (regs_of c.args.regs.now) c.requires.0 (term_tree c.in-Let.value) y.fits y.sized y.terms.0.0 y.typed.1

pub run_stmt-load-requires : goal.run_stmt-load-requires
run_stmt-load-requires t c =
    let y : Ready c.args.tables.now c.args.source.now c.args.region.now (regs_of c.args.regs.now) c.requires.0 (plain.Load c.in-Load.reg c.in-Load.buf (term_tree c.in-Load.at) plain.End) = subst (λ (b : Code). Ready c.args.tables.now c.args.source.now c.args.region.now (regs_of c.args.regs.now) c.requires.0 b) (ap alone c.in-Load.is ∙ alone_load c.in-Load.reg c.in-Load.buf c.in-Load.at) c.requires.1 in
    (c.requires.0, y)

pub run_stmt-assign-requires-in-Var : goal.run_stmt-assign-requires-in-Var
run_stmt-assign-requires-in-Var t c =
    let y : Ready c.args.tables.now c.args.source.now c.args.region.now (regs_of c.args.regs.now) c.requires.0 (plain.Var c.in-Var.reg (term_tree c.in-Var.value) plain.End) = subst (λ (b : Code). Ready c.args.tables.now c.args.source.now c.args.region.now (regs_of c.args.regs.now) c.requires.0 b) (ap alone c.in-Var.is ∙ alone_var c.in-Var.reg c.in-Var.value) c.requires.1 in
    evaluable c.args.tables.now c.args.source.now c.args.region.now (regs_of c.args.regs.now) c.requires.0 (term_tree c.in-Var.value) y.fits y.sized y.terms.0.0 y.typed.1

pub run_stmt-assign-requires-in-Put : goal.run_stmt-assign-requires-in-Put
run_stmt-assign-requires-in-Put t c =
    let y : Ready c.args.tables.now c.args.source.now c.args.region.now (regs_of c.args.regs.now) c.requires.0 (plain.Put c.in-Put.reg (term_tree c.in-Put.value) plain.End) = subst (λ (b : Code). Ready c.args.tables.now c.args.source.now c.args.region.now (regs_of c.args.regs.now) c.requires.0 b) (ap alone c.in-Put.is ∙ alone_put c.in-Put.reg c.in-Put.value) c.requires.1 in
    evaluable c.args.tables.now c.args.source.now c.args.region.now (regs_of c.args.regs.now) c.requires.0 (term_tree c.in-Put.value) y.fits y.sized y.terms.0.0 y.typed.1

pub run_stmt-store-requires : goal.run_stmt-store-requires
run_stmt-store-requires t c =
    let y : Ready c.args.tables.now c.args.source.now c.args.region.now (regs_of c.args.regs.now) c.requires.0 (plain.Set c.in-Set.buf (term_tree c.in-Set.at) (term_tree c.in-Set.value) plain.End) = subst (λ (b : Code). Ready c.args.tables.now c.args.source.now c.args.region.now (regs_of c.args.regs.now) c.requires.0 b) (ap alone c.in-Set.is ∙ alone_set c.in-Set.buf c.in-Set.at c.in-Set.value) c.requires.1 in
    (c.requires.0, y)

pub run_stmt-size-end-requires : goal.run_stmt-size-end-requires
run_stmt-size-end-requires t c =
    let y : Ready c.args.tables.now c.args.source.now c.args.region.now (regs_of c.args.regs.now) c.requires.0 (plain.For c.in-For.reg c.in-For.below (tree_of c.in-For.body) plain.End) = subst (λ (b : Code). Ready c.args.tables.now c.args.source.now c.args.region.now (regs_of c.args.regs.now) c.requires.0 b) (ap alone c.in-For.is ∙ alone_for c.in-For.reg c.in-For.below c.in-For.body) c.requires.1 in
    dim_sized c.args.tables.now c.args.source.now c.requires.0 c.in-For.below y.sized y.terms.0 y.typed.1

pub run_stmt-run_turns-requires : goal.run_stmt-run_turns-requires
run_stmt-run_turns-requires t c =
    let y : Ready c.args.tables.now c.args.source.now c.args.region.now (regs_of c.args.regs.now) c.requires.0 (plain.For c.in-For.reg c.in-For.below (tree_of c.in-For.body) plain.End) = subst (λ (b : Code). Ready c.args.tables.now c.args.source.now c.args.region.now (regs_of c.args.regs.now) c.requires.0 b) (ap alone c.in-For.is ∙ alone_for c.in-For.reg c.in-For.below c.in-For.body) c.requires.1 in
    (search (rules, the_lemmas), (c.requires.0, for_turning c.args.tables.now c.args.source.now c.args.region.now (regs_of c.args.regs.now) c.requires.0 c.in-For.reg c.in-For.below (tree_of c.in-For.body) c.size-end.result y c.size-end.ensures.value c.size-end.ensures.small))

pub run_stmt-eval-requires : goal.run_stmt-eval-requires
run_stmt-eval-requires t c =
    let y : Ready c.args.tables.now c.args.source.now c.args.region.now (regs_of c.args.regs.now) c.requires.0 (plain.Span c.in-Span.reg (term_tree c.in-Span.first) (term_tree c.in-Span.end) c.in-Span.below (tree_of c.in-Span.body) plain.End) = subst (λ (b : Code). Ready c.args.tables.now c.args.source.now c.args.region.now (regs_of c.args.regs.now) c.requires.0 b) (ap alone c.in-Span.is ∙ alone_span c.in-Span.reg c.in-Span.first c.in-Span.end c.in-Span.below c.in-Span.body) c.requires.1 in
    evaluable c.args.tables.now c.args.source.now c.args.region.now (regs_of c.args.regs.now) c.requires.0 (term_tree c.in-Span.first) y.fits y.sized y.terms.0.0 y.typed.2

pub run_stmt-eval-requires-in-Span : goal.run_stmt-eval-requires-in-Span
run_stmt-eval-requires-in-Span t c =
    let y : Ready c.args.tables.now c.args.source.now c.args.region.now (regs_of c.args.regs.now) c.requires.0 (plain.Span c.in-Span.reg (term_tree c.in-Span.first) (term_tree c.in-Span.end) c.in-Span.below (tree_of c.in-Span.body) plain.End) = subst (λ (b : Code). Ready c.args.tables.now c.args.source.now c.args.region.now (regs_of c.args.regs.now) c.requires.0 b) (ap alone c.in-Span.is ∙ alone_span c.in-Span.reg c.in-Span.first c.in-Span.end c.in-Span.below c.in-Span.body) c.requires.1 in
    evaluable c.args.tables.now c.args.source.now c.args.region.now (regs_of c.args.regs.now) c.requires.0 (term_tree c.in-Span.end) y.fits y.sized y.terms.1.0 y.typed.3

pub run_stmt-run_turns-requires-in-Span : goal.run_stmt-run_turns-requires-in-Span
run_stmt-run_turns-requires-in-Span t c =
    let y : Ready c.args.tables.now c.args.source.now c.args.region.now (regs_of c.args.regs.now) c.requires.0 (plain.Span c.in-Span.reg (term_tree c.in-Span.first) (term_tree c.in-Span.end) c.in-Span.below (tree_of c.in-Span.body) plain.End) = subst (λ (b : Code). Ready c.args.tables.now c.args.source.now c.args.region.now (regs_of c.args.regs.now) c.requires.0 b) (ap alone c.in-Span.is ∙ alone_span c.in-Span.reg c.in-Span.first c.in-Span.end c.in-Span.below c.in-Span.body) c.requires.1 in
    let p = span_ends c.args.tables.now c.args.source.now c.args.region.now (regs_of c.args.regs.now) c.requires.0 c.in-Span.reg (term_tree c.in-Span.first) (term_tree c.in-Span.end) c.in-Span.below (tree_of c.in-Span.body) y in
    let fa : FitsSigned w64 c.eval.result = search rules in
    let fb : FitsSigned w64 c.eval-in-Span.result = search rules in
    let a = end_is c.args.tables.now c.args.source.now c.args.region.now (regs_of c.args.regs.now) c.requires.0 c.eval.result (value (env_of c.args.tables.now c.args.source.now) (regs_of c.args.regs.now) (term_tree c.in-Span.first)) c.cast_unsigned-first.result p.first fa c.eval.ensures p.first_is (c.cast_unsigned-first.ensures ∙ ap (cast_unsigned w64) (to_z-of_z w64 c.eval.result fa)) in
    let b = end_is c.args.tables.now c.args.source.now c.args.region.now (regs_of c.args.regs.now) c.requires.0 c.eval-in-Span.result (value (env_of c.args.tables.now c.args.source.now) (regs_of c.args.regs.now) (term_tree c.in-Span.end)) c.cast_unsigned-end.result p.end fb c.eval-in-Span.ensures p.end_is (c.cast_unsigned-end.ensures ∙ ap (cast_unsigned w64) (to_z-of_z w64 c.eval-in-Span.result fb)) in
    (search (rules, the_lemmas), (c.requires.0, span_turning c.args.tables.now c.args.source.now c.args.region.now (regs_of c.args.regs.now) c.requires.0 c.in-Span.reg (term_tree c.in-Span.first) (term_tree c.in-Span.end) c.in-Span.below (tree_of c.in-Span.body) c.cast_unsigned-end.result y b))

pub run_stmt-eval-left-requires : goal.run_stmt-eval-left-requires
run_stmt-eval-left-requires t c =
    let y : Ready c.args.tables.now c.args.source.now c.args.region.now (regs_of c.args.regs.now) c.requires.0 (plain.If (term_tree c.in-If.left) c.in-If.equal (term_tree c.in-If.right) (tree_of c.in-If.body) (was_given c.in-If.other) (other_tree c.in-If.other) plain.End) = subst (λ (b : Code). Ready c.args.tables.now c.args.source.now c.args.region.now (regs_of c.args.regs.now) c.requires.0 b) (ap alone c.in-If.is ∙ alone_if c.in-If.left c.in-If.equal c.in-If.right c.in-If.body c.in-If.other) c.requires.1 in
    evaluable c.args.tables.now c.args.source.now c.args.region.now (regs_of c.args.regs.now) c.requires.0 (term_tree c.in-If.left) y.fits y.sized y.terms.0.0 y.typed.0

pub run_stmt-eval-right-requires : goal.run_stmt-eval-right-requires
run_stmt-eval-right-requires t c =
    let y : Ready c.args.tables.now c.args.source.now c.args.region.now (regs_of c.args.regs.now) c.requires.0 (plain.If (term_tree c.in-If.left) c.in-If.equal (term_tree c.in-If.right) (tree_of c.in-If.body) (was_given c.in-If.other) (other_tree c.in-If.other) plain.End) = subst (λ (b : Code). Ready c.args.tables.now c.args.source.now c.args.region.now (regs_of c.args.regs.now) c.requires.0 b) (ap alone c.in-If.is ∙ alone_if c.in-If.left c.in-If.equal c.in-If.right c.in-If.body c.in-If.other) c.requires.1 in
    evaluable c.args.tables.now c.args.source.now c.args.region.now (regs_of c.args.regs.now) c.requires.0 (term_tree c.in-If.right) y.fits y.sized y.terms.1.0 y.typed.1

pub run_stmt-run_inner-requires : goal.run_stmt-run_inner-requires
run_stmt-run_inner-requires t c =
    let y : Ready c.args.tables.now c.args.source.now c.args.region.now (regs_of c.args.regs.now) c.requires.0 (plain.If (term_tree c.in-If.left) c.in-If.equal (term_tree c.in-If.right) (tree_of c.in-If.body) (was_given c.in-If.other) (other_tree c.in-If.other) plain.End) = subst (λ (b : Code). Ready c.args.tables.now c.args.source.now c.args.region.now (regs_of c.args.regs.now) c.requires.0 b) (ap alone c.in-If.is ∙ alone_if c.in-If.left c.in-If.equal c.in-If.right c.in-If.body c.in-If.other) c.requires.1 in
    (search (rules, the_lemmas), (c.requires.0, then_ready c.args.tables.now c.args.source.now c.args.region.now (regs_of c.args.regs.now) c.requires.0 (term_tree c.in-If.left) c.in-If.equal (term_tree c.in-If.right) (tree_of c.in-If.body) (was_given c.in-If.other) (other_tree c.in-If.other) y))

pub run_stmt-run_other-requires : goal.run_stmt-run_other-requires
run_stmt-run_other-requires t c =
    let y : Ready c.args.tables.now c.args.source.now c.args.region.now (regs_of c.args.regs.now) c.requires.0 (plain.If (term_tree c.in-If.left) c.in-If.equal (term_tree c.in-If.right) (tree_of c.in-If.body) (was_given c.in-If.other) (other_tree c.in-If.other) plain.End) = subst (λ (b : Code). Ready c.args.tables.now c.args.source.now c.args.region.now (regs_of c.args.regs.now) c.requires.0 b) (ap alone c.in-If.is ∙ alone_if c.in-If.left c.in-If.equal c.in-If.right c.in-If.body c.in-If.other) c.requires.1 in
    (search (rules, the_lemmas), (c.requires.0, else_ready c.args.tables.now c.args.source.now c.args.region.now (regs_of c.args.regs.now) c.requires.0 (term_tree c.in-If.left) c.in-If.equal (term_tree c.in-If.right) (tree_of c.in-If.body) (was_given c.in-If.other) (other_tree c.in-If.other) y))

pub run_stmt-eval-value-requires : goal.run_stmt-eval-value-requires
run_stmt-eval-value-requires t c =
    let y : Ready c.args.tables.now c.args.source.now c.args.region.now (regs_of c.args.regs.now) c.requires.0 (plain.When (term_tree c.in-When.value) c.in-When.below c.in-When.reg (tree_of c.in-When.body) (was_given c.in-When.other) (other_tree c.in-When.other) plain.End) = subst (λ (b : Code). Ready c.args.tables.now c.args.source.now c.args.region.now (regs_of c.args.regs.now) c.requires.0 b) (ap alone c.in-When.is ∙ alone_when c.in-When.value c.in-When.below c.in-When.reg c.in-When.body c.in-When.other) c.requires.1 in
    evaluable c.args.tables.now c.args.source.now c.args.region.now (regs_of c.args.regs.now) c.requires.0 (term_tree c.in-When.value) y.fits y.sized y.terms.0.0 y.typed.2

pub run_stmt-size-requires : goal.run_stmt-size-requires
run_stmt-size-requires t c =
    let y : Ready c.args.tables.now c.args.source.now c.args.region.now (regs_of c.args.regs.now) c.requires.0 (plain.When (term_tree c.in-When.value) c.in-When.below c.in-When.reg (tree_of c.in-When.body) (was_given c.in-When.other) (other_tree c.in-When.other) plain.End) = subst (λ (b : Code). Ready c.args.tables.now c.args.source.now c.args.region.now (regs_of c.args.regs.now) c.requires.0 b) (ap alone c.in-When.is ∙ alone_when c.in-When.value c.in-When.below c.in-When.reg c.in-When.body c.in-When.other) c.requires.1 in
    dim_sized c.args.tables.now c.args.source.now c.requires.0 c.in-When.below y.sized y.terms.1 y.typed.1

pub run_stmt-run_inner-requires-in-Some : goal.run_stmt-run_inner-requires-in-Some
run_stmt-run_inner-requires-in-Some t c =
    let y : Ready c.args.tables.now c.args.source.now c.args.region.now (regs_of c.args.regs.now) c.requires.0 (plain.When (term_tree c.in-When.value) c.in-When.below c.in-When.reg (tree_of c.in-When.body) (was_given c.in-When.other) (other_tree c.in-When.other) plain.End) = subst (λ (b : Code). Ready c.args.tables.now c.args.source.now c.args.region.now (regs_of c.args.regs.now) c.requires.0 b) (ap alone c.in-When.is ∙ alone_when c.in-When.value c.in-When.below c.in-When.reg c.in-When.body c.in-When.other) c.requires.1 in
    let fv : FitsSigned w64 c.eval-value.result = search rules in
    let found : place c.eval-value.result c.size.result ≡ Some c.in-Some.field-0 = ap (λ (z : ℤ). place z c.size.result) (sym (to_z-of_z w64 c.eval-value.result fv)) ∙ (sym c.place.ensures ∙ c.in-Some.is) in
    let set : regs_of c.set.new.self ≡ put (regs_of c.args.regs.now) c.in-When.reg c.eval-value.result = c.in_ok-set-in-Some.ensures ∙ ap (put (regs_of c.args.regs.now) c.in-When.reg) (to_z-of_z w64 c.eval-value.result fv) in
    (search (rules, the_lemmas), (_, when_ready c.args.tables.now c.args.source.now c.args.region.now (regs_of c.args.regs.now) c.requires.0 (term_tree c.in-When.value) c.in-When.below c.in-When.reg (tree_of c.in-When.body) (was_given c.in-When.other) (other_tree c.in-When.other) c.eval-value.result c.size.result c.in-Some.field-0 (regs_of c.set.new.self) y c.size.ensures.value found set))

pub run_stmt-run_other-requires-in-None : goal.run_stmt-run_other-requires-in-None
run_stmt-run_other-requires-in-None t c =
    let y : Ready c.args.tables.now c.args.source.now c.args.region.now (regs_of c.args.regs.now) c.requires.0 (plain.When (term_tree c.in-When.value) c.in-When.below c.in-When.reg (tree_of c.in-When.body) (was_given c.in-When.other) (other_tree c.in-When.other) plain.End) = subst (λ (b : Code). Ready c.args.tables.now c.args.source.now c.args.region.now (regs_of c.args.regs.now) c.requires.0 b) (ap alone c.in-When.is ∙ alone_when c.in-When.value c.in-When.below c.in-When.reg c.in-When.body c.in-When.other) c.requires.1 in
    (search (rules, the_lemmas), (c.requires.0, when_not_ready c.args.tables.now c.args.source.now c.args.region.now (regs_of c.args.regs.now) c.requires.0 (term_tree c.in-When.value) c.in-When.below c.in-When.reg (tree_of c.in-When.body) (was_given c.in-When.other) (other_tree c.in-When.other) y))

pub run_stmt-order-requires : goal.run_stmt-order-requires
run_stmt-order-requires t c =
    let y : Ready c.args.tables.now c.args.source.now c.args.region.now (regs_of c.args.regs.now) c.requires.0 (plain.Order c.in-Order.buf c.as_slice.result.now plain.End) = subst (λ (b : Code). Ready c.args.tables.now c.args.source.now c.args.region.now (regs_of c.args.regs.now) c.requires.0 b) (ap alone c.in-Order.is ∙ alone_order c.in-Order.buf c.in-Order.keys ∙ ap (λ (ks : List Buf). plain.Order c.in-Order.buf ks plain.End) (sym c.as_slice.ensures)) c.requires.1 in
    record { sources = c.args.source.now; regs = (regs_of c.args.regs.now); context = c.requires.0; ready = y }

pub run_stmt-returns-in-Let : goal.run_stmt-returns-in-Let
run_stmt-returns-in-Let t c = λ n h.
    assigned c.args.tables.now c.args.source.now c.args.region.now (regs_of c.args.regs.now) c.assign.result (alone c.args.stmt.now) c.in-Let.reg (value (env_of c.args.tables.now c.args.source.now) (regs_of c.args.regs.now) (term_tree c.in-Let.value)) (regs_of c.assign.new.regs) c.charge.new.steps n (ap (λ (b : Code). exec (env_of c.args.tables.now c.args.source.now) b ((λ (n : ℕ). state_of c.args.tables.now c.args.region.now (regs_of c.args.regs.now) n) n)) (ap alone c.in-Let.is ∙ alone_let c.in-Let.reg c.in-Let.value)) c.assign.ensures.ok c.assign.ensures.memory (c.in_ok-charge.ensures.ok n h) c.requires.1.stands

pub run_stmt-returns-in-Load : goal.run_stmt-returns-in-Load
run_stmt-returns-in-Load t c = λ n h.
    ran_as c.args.tables.now c.args.source.now c.args.region.now (regs_of c.args.regs.now) c.load.result (alone c.args.stmt.now) (plain.Load c.in-Load.reg c.in-Load.buf (term_tree c.in-Load.at) plain.End) (regs_of c.load.new.regs) c.charge.new.steps n (ap alone c.in-Load.is ∙ alone_load c.in-Load.reg c.in-Load.buf c.in-Load.at) c.load.ensures.ok c.load.ensures.memory (c.in_ok-charge.ensures.ok n h) c.requires.1.stands

pub run_stmt-returns-in-Var : goal.run_stmt-returns-in-Var
run_stmt-returns-in-Var t c = λ n h.
    assigned c.args.tables.now c.args.source.now c.args.region.now (regs_of c.args.regs.now) c.assign-in-Var.result (alone c.args.stmt.now) c.in-Var.reg (value (env_of c.args.tables.now c.args.source.now) (regs_of c.args.regs.now) (term_tree c.in-Var.value)) (regs_of c.assign-in-Var.new.regs) c.charge.new.steps n (ap (λ (b : Code). exec (env_of c.args.tables.now c.args.source.now) b ((λ (n : ℕ). state_of c.args.tables.now c.args.region.now (regs_of c.args.regs.now) n) n)) (ap alone c.in-Var.is ∙ alone_var c.in-Var.reg c.in-Var.value)) c.assign-in-Var.ensures.ok c.assign-in-Var.ensures.memory (c.in_ok-charge.ensures.ok n h) c.requires.1.stands

pub run_stmt-returns-in-Put : goal.run_stmt-returns-in-Put
run_stmt-returns-in-Put t c = λ n h.
    assigned c.args.tables.now c.args.source.now c.args.region.now (regs_of c.args.regs.now) c.assign-in-Put.result (alone c.args.stmt.now) c.in-Put.reg (value (env_of c.args.tables.now c.args.source.now) (regs_of c.args.regs.now) (term_tree c.in-Put.value)) (regs_of c.assign-in-Put.new.regs) c.charge.new.steps n (ap (λ (b : Code). exec (env_of c.args.tables.now c.args.source.now) b ((λ (n : ℕ). state_of c.args.tables.now c.args.region.now (regs_of c.args.regs.now) n) n)) (ap alone c.in-Put.is ∙ alone_put c.in-Put.reg c.in-Put.value)) c.assign-in-Put.ensures.ok c.assign-in-Put.ensures.memory (c.in_ok-charge.ensures.ok n h) c.requires.1.stands

pub run_stmt-returns-in-Set : goal.run_stmt-returns-in-Set
run_stmt-returns-in-Set t c = λ n h.
    record { count = n + 1; is = (ap (λ (b : Code). exec (env_of c.args.tables.now c.args.source.now) b ((λ (n : ℕ). state_of c.args.tables.now c.args.region.now (regs_of c.args.regs.now) n) n)) (ap alone c.in-Set.is ∙ alone_set c.in-Set.buf c.in-Set.at c.in-Set.value)) ∙ c.store.ensures.runs n; shows = (c.in_ok-charge.ensures.ok n h); stands = c.store.ensures.stands }

pub run_stmt-returns-in-For : goal.run_stmt-returns-in-For
run_stmt-returns-in-For t c = λ n h.
    leads_as c.args.tables.now c.args.source.now c.args.region.now (regs_of c.args.regs.now) c.run_turns.result (turns (c.size-end.result - 0) (turn_from (env_of c.args.tables.now c.args.source.now) c.in-For.reg 0 (tree_of c.in-For.body)) ((λ (n : ℕ). state_of c.args.tables.now c.args.region.now (regs_of c.args.regs.now) n) (n + 1))) (exec (env_of c.args.tables.now c.args.source.now) (alone c.args.stmt.now) ((λ (n : ℕ). state_of c.args.tables.now c.args.region.now (regs_of c.args.regs.now) n) n)) c.run_turns.new.region (regs_of c.run_turns.new.regs) c.run_turns.new.steps
    ((ap (λ (b : Code). exec (env_of c.args.tables.now c.args.source.now) b ((λ (n : ℕ). state_of c.args.tables.now c.args.region.now (regs_of c.args.regs.now) n) n)) (ap alone c.in-For.is ∙ alone_for c.in-For.reg c.in-For.below c.in-For.body)) ∙ for_is c.args.tables.now c.args.source.now c.args.region.now (regs_of c.args.regs.now) c.in-For.reg c.in-For.below (tree_of c.in-For.body) c.size-end.result n c.size-end.ensures.value) (c.run_turns.ensures (n + 1) (c.in_ok-charge.ensures.ok n h))

pub run_stmt-returns-in-Span : goal.run_stmt-returns-in-Span
run_stmt-returns-in-Span t c =
    let y : Ready c.args.tables.now c.args.source.now c.args.region.now (regs_of c.args.regs.now) c.requires.0 (plain.Span c.in-Span.reg (term_tree c.in-Span.first) (term_tree c.in-Span.end) c.in-Span.below (tree_of c.in-Span.body) plain.End) = subst (λ (b : Code). Ready c.args.tables.now c.args.source.now c.args.region.now (regs_of c.args.regs.now) c.requires.0 b) (ap alone c.in-Span.is ∙ alone_span c.in-Span.reg c.in-Span.first c.in-Span.end c.in-Span.below c.in-Span.body) c.requires.1 in
    let p = span_ends c.args.tables.now c.args.source.now c.args.region.now (regs_of c.args.regs.now) c.requires.0 c.in-Span.reg (term_tree c.in-Span.first) (term_tree c.in-Span.end) c.in-Span.below (tree_of c.in-Span.body) y in
    let fa : FitsSigned w64 c.eval.result = search rules in
    let fb : FitsSigned w64 c.eval-in-Span.result = search rules in
    let a = end_is c.args.tables.now c.args.source.now c.args.region.now (regs_of c.args.regs.now) c.requires.0 c.eval.result (value (env_of c.args.tables.now c.args.source.now) (regs_of c.args.regs.now) (term_tree c.in-Span.first)) c.cast_unsigned-first.result p.first fa c.eval.ensures p.first_is (c.cast_unsigned-first.ensures ∙ ap (cast_unsigned w64) (to_z-of_z w64 c.eval.result fa)) in
    let b = end_is c.args.tables.now c.args.source.now c.args.region.now (regs_of c.args.regs.now) c.requires.0 c.eval-in-Span.result (value (env_of c.args.tables.now c.args.source.now) (regs_of c.args.regs.now) (term_tree c.in-Span.end)) c.cast_unsigned-end.result p.end fb c.eval-in-Span.ensures p.end_is (c.cast_unsigned-end.ensures ∙ ap (cast_unsigned w64) (to_z-of_z w64 c.eval-in-Span.result fb)) in
    λ n h.
    leads_as c.args.tables.now c.args.source.now c.args.region.now (regs_of c.args.regs.now) c.run_turns-in-Span.result (turns (c.cast_unsigned-end.result - c.cast_unsigned-first.result) (turn_from (env_of c.args.tables.now c.args.source.now) c.in-Span.reg c.cast_unsigned-first.result (tree_of c.in-Span.body)) ((λ (n : ℕ). state_of c.args.tables.now c.args.region.now (regs_of c.args.regs.now) n) (n + 1))) (exec (env_of c.args.tables.now c.args.source.now) (alone c.args.stmt.now) ((λ (n : ℕ). state_of c.args.tables.now c.args.region.now (regs_of c.args.regs.now) n) n)) c.run_turns-in-Span.new.region (regs_of c.run_turns-in-Span.new.regs) c.run_turns-in-Span.new.steps
    ((ap (λ (b : Code). exec (env_of c.args.tables.now c.args.source.now) b ((λ (n : ℕ). state_of c.args.tables.now c.args.region.now (regs_of c.args.regs.now) n) n)) (ap alone c.in-Span.is ∙ alone_span c.in-Span.reg c.in-Span.first c.in-Span.end c.in-Span.below c.in-Span.body)) ∙ span_is c.args.tables.now c.args.source.now c.args.region.now (regs_of c.args.regs.now) c.in-Span.reg (term_tree c.in-Span.first) (term_tree c.in-Span.end) c.in-Span.below (tree_of c.in-Span.body) c.cast_unsigned-first.result c.cast_unsigned-end.result n a b) (c.run_turns-in-Span.ensures (n + 1) (c.in_ok-charge.ensures.ok n h))

pub run_stmt-returns-then-test : goal.run_stmt-returns-then-test
run_stmt-returns-then-test t c =
    let fa : FitsSigned w64 c.eval-left.result = search rules in
    let fb : FitsSigned w64 c.eval-right.result = search rules in
    let e = c.test.ensures ∙ (ap (λ (z : ℤ). test c.in-If.equal z (to_z w64 (of_z w64 c.eval-right.result))) (to_z-of_z w64 c.eval-left.result fa) ∙ ap (test c.in-If.equal c.eval-left.result) (to_z-of_z w64 c.eval-right.result fb)) in
    λ n h.
    leads_as c.args.tables.now c.args.source.now c.args.region.now (regs_of c.args.regs.now) c.run_inner.result (exec (env_of c.args.tables.now c.args.source.now) (tree_of c.in-If.body) ((λ (n : ℕ). state_of c.args.tables.now c.args.region.now (regs_of c.args.regs.now) n) (n + 1))) (exec (env_of c.args.tables.now c.args.source.now) (alone c.args.stmt.now) ((λ (n : ℕ). state_of c.args.tables.now c.args.region.now (regs_of c.args.regs.now) n) n)) c.run_inner.new.region (regs_of c.run_inner.new.regs) c.run_inner.new.steps
    ((ap (λ (b : Code). exec (env_of c.args.tables.now c.args.source.now) b ((λ (n : ℕ). state_of c.args.tables.now c.args.region.now (regs_of c.args.regs.now) n) n)) (ap alone c.in-If.is ∙ alone_if c.in-If.left c.in-If.equal c.in-If.right c.in-If.body c.in-If.other)) ∙ then_is c.args.tables.now c.args.source.now c.args.region.now (regs_of c.args.regs.now) (term_tree c.in-If.left) c.in-If.equal (term_tree c.in-If.right) (tree_of c.in-If.body) (was_given c.in-If.other) (other_tree c.in-If.other) c.eval-left.result c.eval-right.result c.test.result n c.eval-left.ensures c.eval-right.ensures e c.if-test.true) (c.run_inner.ensures (n + 1) (c.in_ok-charge.ensures.ok n h))

pub run_stmt-returns-else-test : goal.run_stmt-returns-else-test
run_stmt-returns-else-test t c =
    let fa : FitsSigned w64 c.eval-left.result = search rules in
    let fb : FitsSigned w64 c.eval-right.result = search rules in
    let e = c.test.ensures ∙ (ap (λ (z : ℤ). test c.in-If.equal z (to_z w64 (of_z w64 c.eval-right.result))) (to_z-of_z w64 c.eval-left.result fa) ∙ ap (test c.in-If.equal c.eval-left.result) (to_z-of_z w64 c.eval-right.result fb)) in
    λ n h.
    leads_as c.args.tables.now c.args.source.now c.args.region.now (regs_of c.args.regs.now) c.run_other.result (exec (env_of c.args.tables.now c.args.source.now) (other_tree c.in-If.other) ((λ (n : ℕ). state_of c.args.tables.now c.args.region.now (regs_of c.args.regs.now) n) (n + 1))) (exec (env_of c.args.tables.now c.args.source.now) (alone c.args.stmt.now) ((λ (n : ℕ). state_of c.args.tables.now c.args.region.now (regs_of c.args.regs.now) n) n)) c.run_other.new.region (regs_of c.run_other.new.regs) c.run_other.new.steps
    ((ap (λ (b : Code). exec (env_of c.args.tables.now c.args.source.now) b ((λ (n : ℕ). state_of c.args.tables.now c.args.region.now (regs_of c.args.regs.now) n) n)) (ap alone c.in-If.is ∙ alone_if c.in-If.left c.in-If.equal c.in-If.right c.in-If.body c.in-If.other)) ∙ else_is c.args.tables.now c.args.source.now c.args.region.now (regs_of c.args.regs.now) (term_tree c.in-If.left) c.in-If.equal (term_tree c.in-If.right) (tree_of c.in-If.body) (was_given c.in-If.other) (other_tree c.in-If.other) c.eval-left.result c.eval-right.result c.test.result n c.eval-left.ensures c.eval-right.ensures e c.if-test.false) (c.run_other.ensures (n + 1) (c.in_ok-charge.ensures.ok n h))

pub run_stmt-returns-in_ok-set-in-Some : goal.run_stmt-returns-in_ok-set-in-Some
run_stmt-returns-in_ok-set-in-Some t c =
    let fv : FitsSigned w64 c.eval-value.result = search rules in
    let found : place c.eval-value.result c.size.result ≡ Some c.in-Some.field-0 = ap (λ (z : ℤ). place z c.size.result) (sym (to_z-of_z w64 c.eval-value.result fv)) ∙ (sym c.place.ensures ∙ c.in-Some.is) in
    let set : regs_of c.set.new.self ≡ put (regs_of c.args.regs.now) c.in-When.reg c.eval-value.result = c.in_ok-set-in-Some.ensures ∙ ap (put (regs_of c.args.regs.now) c.in-When.reg) (to_z-of_z w64 c.eval-value.result fv) in
    λ n h.
    leads_as c.args.tables.now c.args.source.now c.args.region.now (regs_of c.args.regs.now) c.run_inner-in-Some.result (exec (env_of c.args.tables.now c.args.source.now) (tree_of c.in-When.body) (state_of c.args.tables.now c.args.region.now (regs_of c.set.new.self) (n + 1))) (exec (env_of c.args.tables.now c.args.source.now) (alone c.args.stmt.now) ((λ (n : ℕ). state_of c.args.tables.now c.args.region.now (regs_of c.args.regs.now) n) n)) c.run_inner-in-Some.new.region (regs_of c.run_inner-in-Some.new.regs) c.run_inner-in-Some.new.steps
    ((ap (λ (b : Code). exec (env_of c.args.tables.now c.args.source.now) b ((λ (n : ℕ). state_of c.args.tables.now c.args.region.now (regs_of c.args.regs.now) n) n)) (ap alone c.in-When.is ∙ alone_when c.in-When.value c.in-When.below c.in-When.reg c.in-When.body c.in-When.other)) ∙ when_is c.args.tables.now c.args.source.now c.args.region.now (regs_of c.args.regs.now) (term_tree c.in-When.value) c.in-When.below c.in-When.reg (tree_of c.in-When.body) (was_given c.in-When.other) (other_tree c.in-When.other) c.eval-value.result c.size.result c.in-Some.field-0 n (regs_of c.set.new.self) c.eval-value.ensures c.size.ensures.value found set) (c.run_inner-in-Some.ensures (n + 1) (c.in_ok-charge.ensures.ok n h))

pub run_stmt-returns-in-None : goal.run_stmt-returns-in-None
run_stmt-returns-in-None t c =
    let fv : FitsSigned w64 c.eval-value.result = search rules in
    let found : place c.eval-value.result c.size.result ≡ None = ap (λ (z : ℤ). place z c.size.result) (sym (to_z-of_z w64 c.eval-value.result fv)) ∙ (sym c.place.ensures ∙ c.in-None.is) in
    λ n h.
    leads_as c.args.tables.now c.args.source.now c.args.region.now (regs_of c.args.regs.now) c.run_other-in-None.result (exec (env_of c.args.tables.now c.args.source.now) (other_tree c.in-When.other) ((λ (n : ℕ). state_of c.args.tables.now c.args.region.now (regs_of c.args.regs.now) n) (n + 1))) (exec (env_of c.args.tables.now c.args.source.now) (alone c.args.stmt.now) ((λ (n : ℕ). state_of c.args.tables.now c.args.region.now (regs_of c.args.regs.now) n) n)) c.run_other-in-None.new.region (regs_of c.run_other-in-None.new.regs) c.run_other-in-None.new.steps
    ((ap (λ (b : Code). exec (env_of c.args.tables.now c.args.source.now) b ((λ (n : ℕ). state_of c.args.tables.now c.args.region.now (regs_of c.args.regs.now) n) n)) (ap alone c.in-When.is ∙ alone_when c.in-When.value c.in-When.below c.in-When.reg c.in-When.body c.in-When.other)) ∙ when_not_is c.args.tables.now c.args.source.now c.args.region.now (regs_of c.args.regs.now) (term_tree c.in-When.value) c.in-When.below c.in-When.reg (tree_of c.in-When.body) (was_given c.in-When.other) (other_tree c.in-When.other) c.eval-value.result c.size.result n c.eval-value.ensures c.size.ensures.value found) (c.run_other-in-None.ensures (n + 1) (c.in_ok-charge.ensures.ok n h))

pub run_stmt-returns-in-Order : goal.run_stmt-returns-in-Order
run_stmt-returns-in-Order t c =
    let y : Ready c.args.tables.now c.args.source.now c.args.region.now (regs_of c.args.regs.now) c.requires.0 (plain.Order c.in-Order.buf c.as_slice.result.now plain.End) = subst (λ (b : Code). Ready c.args.tables.now c.args.source.now c.args.region.now (regs_of c.args.regs.now) c.requires.0 b) (ap alone c.in-Order.is ∙ alone_order c.in-Order.buf c.in-Order.keys ∙ ap (λ (ks : List Buf). plain.Order c.in-Order.buf ks plain.End) (sym c.as_slice.ensures)) c.requires.1 in
    λ n h.
    leads_as c.args.tables.now c.args.source.now c.args.region.now (regs_of c.args.regs.now) c.order.result (exec (env_of c.args.tables.now c.args.source.now) (plain.Order c.in-Order.buf c.as_slice.result.now plain.End) ((λ (n : ℕ). state_of c.args.tables.now c.args.region.now (regs_of c.args.regs.now) n) n)) (exec (env_of c.args.tables.now c.args.source.now) (alone c.args.stmt.now) ((λ (n : ℕ). state_of c.args.tables.now c.args.region.now (regs_of c.args.regs.now) n) n)) c.order.new.region (regs_of c.args.regs.now) c.order.new.steps
    (ap (λ (b : Code). exec (env_of c.args.tables.now c.args.source.now) b ((λ (n : ℕ). state_of c.args.tables.now c.args.region.now (regs_of c.args.regs.now) n) n)) (ap alone c.in-Order.is ∙ alone_order c.in-Order.buf c.in-Order.keys ∙ ap (λ (ks : List Buf). plain.Order c.in-Order.buf ks plain.End) (sym c.as_slice.ensures))) (c.order.ensures c.args.source.now (regs_of c.args.regs.now) c.requires.0 n y (c.in_ok-charge.ensures.ok n h))

pub run_turns-returns-in_err-charge : goal.run_turns-returns-in_err-charge
run_turns-returns-in_err-charge t c =
    let p = err_from_is_err_and c.from_residual.result c.from_residual.ensures.1 in
    rw (p.1, p.2) (turn_charge_stops c.args.tables.now c.args.source.now c.args.region.now (regs_of c.args.regs.now) c.args.steps.now c.args.reg c.args.first c.args.end (tree_of c.args.body.now) c.loop-turn.turn c.loop-turn.region (regs_of c.loop-turn.regs) c.loop-turn.steps (omega (arith, c.saturating_sub-count.ensures)) c.loop-turn.invariant.reached c.in_err-charge.field-0.0 c.charge.new.steps c.in_err-charge.ensures.stop c.in_err-charge.ensures.over)

pub run_turns-run_block-requires : goal.run_turns-run_block-requires
run_turns-run_block-requires t c =
    let small : c.args.first + c.loop-turn.turn < 2 ^ 63 = omega (arith, c.saturating_sub-count.ensures, c.loop-turn.invariant.ready.1.small) in
    let at : regs_of c.set.new.self ≡ put (regs_of c.loop-turn.regs) c.args.reg (pos (c.args.first + c.loop-turn.turn)) = c.in_ok-set.ensures ∙ ap (put (regs_of c.loop-turn.regs) c.args.reg) (to_z_pos w64 (c.args.first + c.loop-turn.turn) small) in
    (search (rules, the_lemmas), body_ready c.args.tables.now c.args.source.now c.args.region.now (regs_of c.args.regs.now) c.args.steps.now c.args.reg c.args.first c.args.end (tree_of c.args.body.now) c.loop-turn.turn c.loop-turn.region (regs_of c.loop-turn.regs) c.loop-turn.steps (omega (arith, c.saturating_sub-count.ensures)) c.loop-turn.invariant.reached c.charge.new.steps (regs_of c.set.new.self) c.in_ok-charge.ensures.ok at c.loop-turn.invariant.ready.0 c.loop-turn.invariant.ready.1)

pub run_turns-returns-in_err-run_block : goal.run_turns-returns-in_err-run_block
run_turns-returns-in_err-run_block t c =
    let small : c.args.first + c.loop-turn.turn < 2 ^ 63 = omega (arith, c.saturating_sub-count.ensures, c.loop-turn.invariant.ready.1.small) in
    let at : regs_of c.set.new.self ≡ put (regs_of c.loop-turn.regs) c.args.reg (pos (c.args.first + c.loop-turn.turn)) = c.in_ok-set.ensures ∙ ap (put (regs_of c.loop-turn.regs) c.args.reg) (to_z_pos w64 (c.args.first + c.loop-turn.turn) small) in
    let p = err_from_is_err_and c.from_residual-in_err-run_block.result c.from_residual-in_err-run_block.ensures.1 in
    rw (p.1, p.2) (turn_stops c.args.tables.now c.args.source.now c.args.region.now (regs_of c.args.regs.now) c.args.steps.now c.args.reg c.args.first c.args.end (tree_of c.args.body.now) c.loop-turn.turn c.loop-turn.region (regs_of c.loop-turn.regs) c.loop-turn.steps (omega (arith, c.saturating_sub-count.ensures)) c.loop-turn.invariant.reached c.charge.new.steps (regs_of c.set.new.self) c.in_ok-charge.ensures.ok at c.in_err-run_block.field-0.0 c.run_block.new.region (regs_of c.run_block.new.regs) c.run_block.new.steps c.in_err-run_block.ensures)

pub run_turns-loop-turn-preserved : goal.run_turns-loop-turn-preserved
run_turns-loop-turn-preserved t c =
    let small : c.args.first + c.loop-turn.turn < 2 ^ 63 = omega (arith, c.saturating_sub-count.ensures, c.loop-turn.invariant.ready.1.small) in
    let at : regs_of c.set.new.self ≡ put (regs_of c.loop-turn.regs) c.args.reg (pos (c.args.first + c.loop-turn.turn)) = c.in_ok-set.ensures ∙ ap (put (regs_of c.loop-turn.regs) c.args.reg) (to_z_pos w64 (c.args.first + c.loop-turn.turn) small) in
    record {
      ready = (c.loop-turn.invariant.ready.0, still_turning c.args.tables.now c.args.source.now c.args.region.now (regs_of c.args.regs.now) c.args.steps.now c.args.reg c.args.first c.args.end (tree_of c.args.body.now) c.loop-turn.turn c.loop-turn.region (regs_of c.loop-turn.regs) c.loop-turn.steps (omega (arith, c.saturating_sub-count.ensures)) c.loop-turn.invariant.reached c.charge.new.steps (regs_of c.set.new.self) c.in_ok-charge.ensures.ok at c.run_block.new.region (regs_of c.run_block.new.regs) c.run_block.new.steps c.in_ok-run_block.ensures c.loop-turn.invariant.ready.0 c.loop-turn.invariant.ready.1);
      reached = turns_more c.args.tables.now c.args.source.now c.args.region.now (regs_of c.args.regs.now) c.args.steps.now c.args.reg c.args.first c.args.end (tree_of c.args.body.now) c.loop-turn.turn c.loop-turn.region (regs_of c.loop-turn.regs) c.loop-turn.steps (omega (arith, c.saturating_sub-count.ensures)) c.loop-turn.invariant.reached c.charge.new.steps (regs_of c.set.new.self) c.in_ok-charge.ensures.ok at c.run_block.new.region (regs_of c.run_block.new.regs) c.run_block.new.steps c.in_ok-run_block.ensures;
    }
