use Rattle.std.proofs.Common.{arith}
use Rattle.std.proofs.lemmas.Result.{err_from_is_err_and}
use Rattle.us_container.proofs.Steps.{buffers_start, buffers_fail, buffers_more, buffers_done}
use Rattle.us_container.proofs.fields.buffers.Goals as goal

pub loop-init : goal.loop-init
loop-init c = buffers_start c.args.len c.args.count c.args.rest.now c.new-found.result c.new-found.ensures

pub returns-in_err-cells : goal.returns-in_err-cells
returns-in_err-cells c =
    let p = err_from_is_err_and c.from_residual.result c.from_residual.ensures.1 in
    rw (p.1, p.2) (buffers_fail c.args.len c.args.count c.args.rest.now c.loop.counter c.loop.found c.loop.left.now c.in_err-cells.field-0.0 c.loop.invariant (omega arith) c.in_err-cells.ensures)

pub loop-preserved : goal.loop-preserved
loop-preserved c =
    rw c.in_ok-push.ensures.ok
    (buffers_more c.args.len c.args.count c.args.rest.now c.loop.counter c.loop.found c.loop.left.now c.in_ok-cells.cells.items c.in_ok-cells.behind.now c.loop.invariant (omega arith) c.in_ok-cells.ensures)

pub returns : goal.returns
returns c = buffers_done c.args.len c.args.count c.args.rest.now c.loop.counter c.loop.found c.loop.left.now c.loop.invariant (omega arith)
