use Rattle.std.proofs.Common.{arith, sym, ap, ◌∙◌, [], ◌∷◌}
use Rattle.us_code.specs.declared.program.CellKind.TheVariants as kind
use Rattle.us_code.specs.Plain.{Order, End, alone, tree_of, other_tree, term_tree}
use Rattle.us_code.specs.Names.{count}
use Rattle.us_code.specs.Unbound.{rule, is_free, keeps_flats, keeps_nexts}
use Rattle.us_code.proofs.Trees.{tree_slice, alone_let, alone_load, alone_var, alone_put, alone_set, alone_for, alone_span, alone_if, alone_when, alone_order}
use Rattle.us_bounds.specs.Seen.{context_of}
use Rattle.us_bounds.proofs.Leading.{step_none, kept_first, leads_number}
use Rattle.us_bounds.proofs.Nesting.{and_left, block_start, block_count, block_room, block_stop, block_more, block_end, block_left, block_room_of, as_stmt, scope_done}
use Rattle.us_bounds.proofs.blocks.+check.Goals as goal

pub check_block-loop-stmt-init : goal.check_block-loop-stmt-init
check_block-loop-stmt-init t c =
    block_start (context_of c.args.table.now) c.args.item c.args.block.now c.as_slice-stmt-items.result.now (tree_slice c.args.block.now c.as_slice-stmt-items.result.now c.as_slice-stmt-items.ensures)

pub check_block-check_stmt-requires : goal.check_block-check_stmt-requires
check_block-check_stmt-requires t c = let n = block_count c.as_slice-stmt-items.result.now c.loop-stmt.stmt-index c.stmt-item.result c.args.block.now c.loop-stmt-test.true c.stmt-item.is c.as_slice-stmt-items.ensures in
    (omega (arith, n), block_room c.loop-stmt.next c.as_slice-stmt-items.result.now c.loop-stmt.stmt-index c.stmt-item.result c.loop-stmt-test.true c.stmt-item.is c.loop-stmt.invariant c.requires)

pub check_block-returns-in_err-next : goal.check_block-returns-in_err-next
check_block-returns-in_err-next t c =
    block_stop c.as_slice-stmt-items.result.now c.loop-stmt.stmt-index c.stmt-item.result c.loop-stmt-test.true c.stmt-item.is (context_of c.loop-stmt.table) c.loop-stmt.next c.loop-stmt.invariant _ _ _ c.from_residual.ensures.1 c.in_err-next.ensures

pub check_block-loop-stmt-preserved : goal.check_block-loop-stmt-preserved
check_block-loop-stmt-preserved t c =
    block_more c.as_slice-stmt-items.result.now c.loop-stmt.stmt-index c.stmt-item.result c.loop-stmt-test.true c.stmt-item.is (context_of c.loop-stmt.table) c.loop-stmt.next c.loop-stmt.invariant _ _ c.in_ok-next.ensures

pub check_block-returns : goal.check_block-returns
check_block-returns t c =
    block_end c.as_slice-stmt-items.result.now c.loop-stmt.stmt-index c.loop-stmt-test.false c.loop-stmt.invariant

pub check_body-returns : goal.check_body-returns
check_body-returns t c =
    block_left (context_of c.args.table.now) (context_of c.check_block.new.table) _ c.args.item c.in_ok-next.next c.args.body.now c.as_slice.result.now (tree_slice c.args.body.now c.as_slice.result.now c.as_slice.ensures) c.in_ok-next.ensures c.leave.ensures

pub check_if-check_body-requires : goal.check_if-check_body-requires
check_if-check_body-requires t c =
    (omega arith, omega arith)

pub check_if-check_other-requires : goal.check_if-check_other-requires
check_if-check_other-requires t c =
    let n = leads_number c.in_ok-next.ensures in (omega arith, omega (arith, n))

pub check_scope-returns : goal.check_scope-returns
check_scope-returns t c =
    scope_done (context_of c.args.table.now) _ (context_of c.check_body.new.table) _ c.args.reg (kind.Below c.args.below) c.args.item c.in_ok-next.next (tree_of c.args.body.now) c.requires.free c.in_ok-add_reg.ensures c.in_ok-next.ensures c.remove_reg.ensures

pub check_span-check_scope-requires : goal.check_span-check_scope-requires
check_span-check_scope-requires t c =
    let k = kept_first c.args.item 1 c.may_span-names.result (rule 4 c.spans-ends.result ∷ rule 5 c.keep_flats-flats.result ∷ rule 6 c.keep_nexts-nexts.result ∷ []) (step_none c.in_ok-judge.ensures) in
    (omega arith, (and_left (is_free ((context_of c.args.table.now).regs c.args.reg)) _ (sym c.may_span-names.ensures ∙ k), omega arith))

pub check_when-check_scope-requires : goal.check_when-check_scope-requires
check_when-check_scope-requires t c =
    let k = kept_first c.args.item 1 c.may_test-names.result (rule 5 (keeps_flats (context_of c.args.table.now) (term_tree c.args.value.now)) ∷ rule 6 (keeps_nexts (context_of c.args.table.now) (term_tree c.args.value.now)) ∷ []) (step_none c.in_ok-judge_term.ensures) in
    (omega arith, (and_left (is_free ((context_of c.args.table.now).regs c.args.reg)) _ (sym c.may_test-names.ensures ∙ k), omega arith))

pub check_when-check_other-requires : goal.check_when-check_other-requires
check_when-check_other-requires t c =
    let n = leads_number c.in_ok-next.ensures in (omega arith, omega (arith, n))

pub check_stmt-check_let-requires : goal.check_stmt-check_let-requires
check_stmt-check_let-requires t c =
    block_room_of c.args.item (ap alone c.in-Let.is ∙ alone_let c.in-Let.reg c.in-Let.value) c.requires

pub check_stmt-returns-in-Let : goal.check_stmt-returns-in-Let
check_stmt-returns-in-Let t c =
    as_stmt (context_of c.args.table.now) c.args.item _ _ (ap alone c.in-Let.is ∙ alone_let c.in-Let.reg c.in-Let.value) c.check_let.ensures

pub check_stmt-check_load-requires : goal.check_stmt-check_load-requires
check_stmt-check_load-requires t c =
    block_room_of c.args.item (ap alone c.in-Load.is ∙ alone_load c.in-Load.reg c.in-Load.buf c.in-Load.at) c.requires

pub check_stmt-returns-in-Load : goal.check_stmt-returns-in-Load
check_stmt-returns-in-Load t c =
    as_stmt (context_of c.args.table.now) c.args.item _ _ (ap alone c.in-Load.is ∙ alone_load c.in-Load.reg c.in-Load.buf c.in-Load.at) c.check_load.ensures

pub check_stmt-check_var-requires : goal.check_stmt-check_var-requires
check_stmt-check_var-requires t c =
    block_room_of c.args.item (ap alone c.in-Var.is ∙ alone_var c.in-Var.reg c.in-Var.value) c.requires

pub check_stmt-returns-in-Var : goal.check_stmt-returns-in-Var
check_stmt-returns-in-Var t c =
    as_stmt (context_of c.args.table.now) c.args.item _ _ (ap alone c.in-Var.is ∙ alone_var c.in-Var.reg c.in-Var.value) c.check_var.ensures

pub check_stmt-check_put-requires : goal.check_stmt-check_put-requires
check_stmt-check_put-requires t c =
    block_room_of c.args.item (ap alone c.in-Put.is ∙ alone_put c.in-Put.reg c.in-Put.value) c.requires

pub check_stmt-returns-in-Put : goal.check_stmt-returns-in-Put
check_stmt-returns-in-Put t c =
    as_stmt (context_of c.args.table.now) c.args.item _ _ (ap alone c.in-Put.is ∙ alone_put c.in-Put.reg c.in-Put.value) c.check_put.ensures

pub check_stmt-check_set-requires : goal.check_stmt-check_set-requires
check_stmt-check_set-requires t c =
    block_room_of c.args.item (ap alone c.in-Set.is ∙ alone_set c.in-Set.buf c.in-Set.at c.in-Set.value) c.requires

pub check_stmt-returns-in-Set : goal.check_stmt-returns-in-Set
check_stmt-returns-in-Set t c =
    as_stmt (context_of c.args.table.now) c.args.item _ _ (ap alone c.in-Set.is ∙ alone_set c.in-Set.buf c.in-Set.at c.in-Set.value) c.check_set.ensures

pub check_stmt-check_for-requires : goal.check_stmt-check_for-requires
check_stmt-check_for-requires t c =
    let n = ap count (ap alone c.in-For.is ∙ alone_for c.in-For.reg c.in-For.below c.in-For.body) in (omega (arith, n), omega (arith, n))

pub check_stmt-returns-in-For : goal.check_stmt-returns-in-For
check_stmt-returns-in-For t c =
    as_stmt (context_of c.args.table.now) c.args.item _ _ (ap alone c.in-For.is ∙ alone_for c.in-For.reg c.in-For.below c.in-For.body) c.check_for.ensures

pub check_stmt-check_span-requires : goal.check_stmt-check_span-requires
check_stmt-check_span-requires t c =
    let n = ap count (ap alone c.in-Span.is ∙ alone_span c.in-Span.reg c.in-Span.first c.in-Span.end c.in-Span.below c.in-Span.body) in (omega (arith, n), omega (arith, n))

pub check_stmt-returns-in-Span : goal.check_stmt-returns-in-Span
check_stmt-returns-in-Span t c =
    as_stmt (context_of c.args.table.now) c.args.item _ _ (ap alone c.in-Span.is ∙ alone_span c.in-Span.reg c.in-Span.first c.in-Span.end c.in-Span.below c.in-Span.body) c.check_span.ensures

pub check_stmt-check_if-requires : goal.check_stmt-check_if-requires
check_stmt-check_if-requires t c =
    let n = ap count (ap alone c.in-If.is ∙ alone_if c.in-If.left c.in-If.equal c.in-If.right c.in-If.body c.in-If.other) in (omega (arith, n), omega (arith, n))

pub check_stmt-returns-in-If : goal.check_stmt-returns-in-If
check_stmt-returns-in-If t c =
    as_stmt (context_of c.args.table.now) c.args.item _ _ (ap alone c.in-If.is ∙ alone_if c.in-If.left c.in-If.equal c.in-If.right c.in-If.body c.in-If.other) c.check_if.ensures

pub check_stmt-check_when-requires : goal.check_stmt-check_when-requires
check_stmt-check_when-requires t c =
    let n = ap count (ap alone c.in-When.is ∙ alone_when c.in-When.value c.in-When.below c.in-When.reg c.in-When.body c.in-When.other) in (omega (arith, n), omega (arith, n))

pub check_stmt-returns-in-When : goal.check_stmt-returns-in-When
check_stmt-returns-in-When t c =
    as_stmt (context_of c.args.table.now) c.args.item _ _ (ap alone c.in-When.is ∙ alone_when c.in-When.value c.in-When.below c.in-When.reg c.in-When.body c.in-When.other) c.check_when.ensures

pub check_stmt-check_order-requires : goal.check_stmt-check_order-requires
check_stmt-check_order-requires t c =
    block_room_of c.args.item (ap alone c.in-Order.is ∙ (alone_order c.in-Order.buf c.in-Order.keys ∙ ap (λ ks. Order c.in-Order.buf ks End) (sym c.as_slice.ensures))) c.requires

pub check_stmt-returns-in-Order : goal.check_stmt-returns-in-Order
check_stmt-returns-in-Order t c =
    as_stmt (context_of c.args.table.now) c.args.item _ _ (ap alone c.in-Order.is ∙ (alone_order c.in-Order.buf c.in-Order.keys ∙ ap (λ ks. Order c.in-Order.buf ks End) (sym c.as_slice.ensures))) c.check_order.ensures

pub check_body-check_block-requires : goal.check_body-check_block-requires
check_body-check_block-requires t c =
    (omega arith, c.requires)

pub check_scope-check_body-requires : goal.check_scope-check_body-requires
check_scope-check_body-requires t c =
    (omega arith, c.requires.room)

pub check_other-check_body-requires : goal.check_other-check_body-requires
check_other-check_body-requires t c =
    let n = ap (λ o. count (other_tree o)) c.in-Some.is in (omega (arith, n), omega (arith, n))

pub check_for-check_scope-requires : goal.check_for-check_scope-requires
check_for-check_scope-requires t c =
    let k = kept_first c.args.item 1 c.may_loop-names.result [] (step_none c.in_ok-judge.ensures) in
    (omega arith, (and_left (is_free ((context_of c.args.table.now).regs c.args.reg)) _ (sym c.may_loop-names.ensures ∙ k), omega arith))
