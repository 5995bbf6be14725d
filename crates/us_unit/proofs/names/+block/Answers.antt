use Rattle.std.proofs.Common.{sym, subst}
use Rattle.us_code.specs.Plain.{alone}
use Rattle.us_code_print.specs.ReadBack.{Named}
use Rattle.us_unit.proofs.Named.{none_named, one_more_named, all_named, named_if, named_when}
use Rattle.us_unit.proofs.names.+block.Goals as goal

pub block_is_named-loop-stmt-init : goal.block_is_named-loop-stmt-init
block_is_named-loop-stmt-init t c = none_named

pub block_is_named-loop-stmt-preserved : goal.block_is_named-loop-stmt-preserved
block_is_named-loop-stmt-preserved t c =
    one_more_named c.as_slice-stmt-items.result.now c.loop-stmt.stmt-index c.stmt-item.result c.loop-stmt-test.true c.stmt-item.is c.loop-stmt.invariant c.statement_is_named.ensures

pub block_is_named-returns : goal.block_is_named-returns
block_is_named-returns t c = all_named c.args.block.now c.as_slice-stmt-items.result.now c.loop-stmt.stmt-index c.loop-stmt-test.false c.as_slice-stmt-items.ensures c.loop-stmt.invariant

pub statement_is_named-returns-in-If : goal.statement_is_named-returns-in-If
statement_is_named-returns-in-If t c =
    let a = c.in-If in
    subst (λ s. Named (alone s)) (sym a.is)
    (named_if a.left a.equal a.right a.body a.other c.term_is_named-in-If.ensures c.term_is_named-in-If-2.ensures c.block_is_named-in-If.ensures c.other_is_named.ensures.named c.other_is_named.ensures.given)

pub statement_is_named-returns-in-When : goal.statement_is_named-returns-in-When
statement_is_named-returns-in-When t c =
    let a = c.in-When in
    subst (λ s. Named (alone s)) (sym a.is)
    (named_when a.value a.below a.reg a.body a.other c.term_is_named-in-When.ensures c.number_is_small-in-When.ensures c.block_is_named-in-When.ensures c.other_is_named-in-When.ensures.named c.other_is_named-in-When.ensures.given)
