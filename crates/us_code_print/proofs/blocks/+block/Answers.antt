use Rattle.std.proofs.Common.{◌++◌, ◌+◌, ◌∙◌, ap, refl, codes}
use Rattle.us_code.specs.Plain.{End, Let, Load, Var, Put, Set, For, Span, If, When, Order, term_tree, tree_of, alone, was_given, other_tree}
use Rattle.us_code.proofs.Trees.{alone_let, alone_load, alone_var, alone_put, alone_set, alone_for, alone_span, alone_if, alone_when, alone_order}
use Rattle.us_code_print.specs.Canon.{assign_line, load_line, set_line, for_line, span_line, if_line, when_line, order_line, closed_lines, else_lines, block_lines}
use Rattle.us_code_print.proofs.Printed.{joined, three, on_ok, stmt_lines, stmt_printed, all_printed}
use Rattle.us_code_print.proofs.blocks.+block.Goals as goal

pub push_stmt-returns-in-Let : goal.push_stmt-returns-in-Let
push_stmt-returns-in-Let t c =
    let a = c.in-Let in
    let d = c.args.depth in
    on_ok c.push_assign.result (λ e. stmt_lines d c.args.stmt.now (Let a.reg (term_tree a.value) End) c.args.out.now.items c.push_assign.new.out.items (assign_line d (codes "let ") a.reg (term_tree a.value)) (ap alone a.is ∙ alone_let a.reg a.value) refl e) c.push_assign.ensures

pub push_stmt-returns-in-Var : goal.push_stmt-returns-in-Var
push_stmt-returns-in-Var t c =
    let a = c.in-Var in
    let d = c.args.depth in
    on_ok c.push_assign-in-Var.result (λ e. stmt_lines d c.args.stmt.now (Var a.reg (term_tree a.value) End) c.args.out.now.items c.push_assign-in-Var.new.out.items (assign_line d (codes "var ") a.reg (term_tree a.value)) (ap alone a.is ∙ alone_var a.reg a.value) refl e) c.push_assign-in-Var.ensures

pub push_stmt-returns-in-Put : goal.push_stmt-returns-in-Put
push_stmt-returns-in-Put t c =
    let a = c.in-Put in
    let d = c.args.depth in
    on_ok c.push_assign-in-Put.result (λ e. stmt_lines d c.args.stmt.now (Put a.reg (term_tree a.value) End) c.args.out.now.items c.push_assign-in-Put.new.out.items (assign_line d (codes "put ") a.reg (term_tree a.value)) (ap alone a.is ∙ alone_put a.reg a.value) refl e) c.push_assign-in-Put.ensures

pub push_stmt-returns-in-Load : goal.push_stmt-returns-in-Load
push_stmt-returns-in-Load t c =
    let a = c.in-Load in
    let d = c.args.depth in
    on_ok c.push_load.result (λ e. stmt_lines d c.args.stmt.now (Load a.reg a.buf (term_tree a.at) End) c.args.out.now.items c.push_load.new.out.items (load_line d a.reg a.buf (term_tree a.at)) (ap alone a.is ∙ alone_load a.reg a.buf a.at) refl e) c.push_load.ensures

pub push_stmt-returns-in-Set : goal.push_stmt-returns-in-Set
push_stmt-returns-in-Set t c =
    let a = c.in-Set in
    let d = c.args.depth in
    on_ok c.push_set.result (λ e. stmt_lines d c.args.stmt.now (Set a.buf (term_tree a.at) (term_tree a.value) End) c.args.out.now.items c.push_set.new.out.items (set_line d a.buf (term_tree a.at) (term_tree a.value)) (ap alone a.is ∙ alone_set a.buf a.at a.value) refl e) c.push_set.ensures

pub push_stmt-returns-in-Order : goal.push_stmt-returns-in-Order
push_stmt-returns-in-Order t c =
    let a = c.in-Order in
    let d = c.args.depth in
    on_ok c.push_order.result (λ e. stmt_lines d c.args.stmt.now (Order a.buf a.keys End) c.args.out.now.items c.push_order.new.out.items (order_line d a.buf a.keys) (ap alone a.is ∙ alone_order a.buf a.keys) refl (e ∙ ap (λ ks. c.args.out.now.items ++ order_line d a.buf ks) c.as_slice.ensures)) c.push_order.ensures

pub push_stmt-returns-in_ok-push_for-in-For : goal.push_stmt-returns-in_ok-push_for-in-For
push_stmt-returns-in_ok-push_for-in-For t c =
    let a = c.in-For in
    let d = c.args.depth in
    let out = c.args.out.now.items in
    let first = for_line d a.reg a.below in
    let body = closed_lines d (block_lines (d + 1) (tree_of a.body)) in
    let last = c.push_closed in
    on_ok last.result (λ e. stmt_lines d c.args.stmt.now (For a.reg a.below (tree_of a.body) End) out last.new.out.items (first ++ body) (ap alone a.is ∙ alone_for a.reg a.below a.body) refl (joined out c.push_for.new.out.items last.new.out.items first body c.in_ok-push_for-in-For.ensures e)) last.ensures

pub push_stmt-returns-in_ok-push_span-in-Span : goal.push_stmt-returns-in_ok-push_span-in-Span
push_stmt-returns-in_ok-push_span-in-Span t c =
    let a = c.in-Span in
    let d = c.args.depth in
    let out = c.args.out.now.items in
    let first = span_line d a.reg (term_tree a.first) (term_tree a.end) a.below in
    let body = closed_lines d (block_lines (d + 1) (tree_of a.body)) in
    let last = c.push_closed-in-Span in
    on_ok last.result (λ e. stmt_lines d c.args.stmt.now (Span a.reg (term_tree a.first) (term_tree a.end) a.below (tree_of a.body) End) out last.new.out.items (first ++ body) (ap alone a.is ∙ alone_span a.reg a.first a.end a.below a.body) refl (joined out c.push_span.new.out.items last.new.out.items first body c.in_ok-push_span-in-Span.ensures e)) last.ensures

pub push_stmt-returns-in_ok-push_inner-in-If : goal.push_stmt-returns-in_ok-push_inner-in-If
push_stmt-returns-in_ok-push_inner-in-If t c =
    let a = c.in-If in
    let d = c.args.depth in
    let out = c.args.out.now.items in
    let first = if_line d (term_tree a.left) a.equal (term_tree a.right) in
    let body = block_lines (d + 1) (tree_of a.body) in
    let rest = else_lines d (was_given a.other) (block_lines (d + 1) (other_tree a.other)) in
    let inner = c.push_inner in
    let last = c.push_else in
    on_ok last.result (λ e. stmt_lines d c.args.stmt.now (If (term_tree a.left) a.equal (term_tree a.right) (tree_of a.body) (was_given a.other) (other_tree a.other) End) out last.new.out.items (first ++ (body ++ rest)) (ap alone a.is ∙ alone_if a.left a.equal a.right a.body a.other) refl
    (three out c.push_if.new.out.items inner.new.out.items last.new.out.items first body rest c.in_ok-push_if-in-If.ensures c.in_ok-push_inner-in-If.ensures e)) last.ensures

pub push_stmt-returns-in_ok-push_inner-in-When : goal.push_stmt-returns-in_ok-push_inner-in-When
push_stmt-returns-in_ok-push_inner-in-When t c =
    let a = c.in-When in
    let d = c.args.depth in
    let out = c.args.out.now.items in
    let first = when_line d (term_tree a.value) a.below a.reg in
    let body = block_lines (d + 1) (tree_of a.body) in
    let rest = else_lines d (was_given a.other) (block_lines (d + 1) (other_tree a.other)) in
    let inner = c.push_inner-in-When in
    let last = c.push_else-in-When in
    on_ok last.result (λ e. stmt_lines d c.args.stmt.now (When (term_tree a.value) a.below a.reg (tree_of a.body) (was_given a.other) (other_tree a.other) End) out last.new.out.items (first ++ (body ++ rest)) (ap alone a.is ∙ alone_when a.value a.below a.reg a.body a.other) refl
    (three out c.push_when.new.out.items inner.new.out.items last.new.out.items first body rest c.in_ok-push_when-in-When.ensures c.in_ok-push_inner-in-When.ensures e)) last.ensures

pub push_block-loop-stmt-preserved : goal.push_block-loop-stmt-preserved
push_block-loop-stmt-preserved t c =
    stmt_printed c.args.depth c.as_slice-stmt-items.result.now c.loop-stmt.stmt-index c.stmt-item.result c.args.out.now.items c.loop-stmt.out.items c.push_stmt.new.out.items c.loop-stmt-test.true c.stmt-item.is c.loop-stmt.invariant c.in_ok-push_stmt.ensures

pub push_block-returns : goal.push_block-returns
push_block-returns t c = all_printed c.args.depth c.args.block.now c.as_slice-stmt-items.result.now c.loop-stmt.stmt-index c.args.out.now.items c.loop-stmt.out.items c.loop-stmt-test.false c.as_slice-stmt-items.ensures c.loop-stmt.invariant
