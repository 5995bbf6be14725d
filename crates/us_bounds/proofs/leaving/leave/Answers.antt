use Rattle.us_bounds.proofs.Nesting.{behind_more, behind_end}
use Rattle.us_bounds.proofs.leaving.leave.Goals as goal

pub loop-stmt-preserved : goal.loop-stmt-preserved
loop-stmt-preserved c = behind_more c.args.stmts.now c.loop-stmt.stmt-index c.stmt-item.result _ _ _ c.loop-stmt-test.true c.stmt-item.is c.loop-stmt.invariant c.forget.ensures

pub returns : goal.returns
returns c = behind_end c.args.stmts.now c.loop-stmt.stmt-index _ _ c.loop-stmt-test.false c.loop-stmt.invariant
