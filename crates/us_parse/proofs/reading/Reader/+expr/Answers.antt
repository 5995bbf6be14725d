use Rattle.std.proofs.Common.{◌<◌, arith}
use Rattle.std.proofs.lemmas.Result.{err_from_is_err_and}
use Rattle.us_parse.proofs.Cycle.{deep_group, inside_group, close_group, whole_group, full_product, lost_divisor, more_product, full_sum, lost_sum, more_sum}
use Rattle.us_parse.proofs.reading.Reader.+expr.Goals as goal

pub factor-returns-else-stands : goal.factor-returns-else-stands
factor-returns-else-stands t c = c.leaf.ensures c.args.depth

pub group-returns-then-depth-ge32 : goal.group-returns-then-depth-ge32
group-returns-then-depth-ge32 t c = deep_group _ c.args.depth _ _ _ c.excess.ensures c.requires.open c.if-depth-ge32.true

pub group-returns-in_err-inner : goal.group-returns-in_err-inner
group-returns-in_err-inner t c =
    let p = err_from_is_err_and c.from_residual.result c.from_residual.ensures.1 in
    let deep : c.args.depth < 32 = omega arith in
    rw (p.1, p.2) (inside_group _ _ c.args.depth c.args.nodes _ c.in_err-inner.field-0.0 c.advance.ensures deep c.requires.nodes c.requires.names c.requires.open c.in_err-inner.ensures)

pub group-returns-in_err-expect : goal.group-returns-in_err-expect
group-returns-in_err-expect t c =
    let p = err_from_is_err_and c.from_residual-in_err-expect.result c.from_residual-in_err-expect.ensures.1 in
    let deep : c.args.depth < 32 = omega arith in
    rw (p.1, p.2) (close_group _ _ _ c.args.depth c.args.nodes c.in_ok-inner.count _ _ c.in_ok-inner.inner c.in_err-expect.field-0.0 c.advance.ensures deep c.requires.nodes c.requires.names c.requires.open c.in_ok-inner.ensures c.in_err-expect.ensures.err)

pub group-returns : goal.group-returns
group-returns t c =
    let deep : c.args.depth < 32 = omega arith in
    whole_group _ _ _ _ c.args.depth c.args.nodes c.in_ok-inner.count _ _ c.in_ok-inner.inner c.advance.ensures deep c.requires.nodes c.requires.names c.requires.open c.in_ok-inner.ensures c.in_ok-expect.ensures.ok

pub term-returns-then-count-ge32 : goal.term-returns-then-count-ge32
term-returns-then-count-ge32 t c = full_product _ _ c.in-Some.over c.args.depth c.args.nodes c.loop-over.count _ _ c.loop-over.product _ c.loop-over.invariant c.in-Some.ensures c.excess.ensures c.if-count-ge32.true

pub term-returns-in_err-number : goal.term-returns-in_err-number
term-returns-in_err-number t c =
    let p = err_from_is_err_and c.from_residual-in_err-number.result c.from_residual-in_err-number.ensures.1 in
    let few : c.loop-over.count < 32 = omega arith in
    rw (p.1, p.2) (lost_divisor _ _ _ c.in-Some.over c.args.depth c.args.nodes c.loop-over.count _ _ c.loop-over.product c.in_err-number.field-0.0 c.loop-over.invariant c.in-Some.ensures c.advance.ensures few c.in_err-number.ensures.err)

pub term-loop-over-preserved : goal.term-loop-over-preserved
term-loop-over-preserved t c =
    let few : c.loop-over.count < 32 = omega arith in
    more_product _ _ _ _ c.in-Some.over c.args.depth c.args.nodes c.loop-over.count c.in_ok-number.number _ _ c.loop-over.product c.in_ok-product-2.product c.loop-over.invariant c.in-Some.ensures c.advance.ensures few c.in_ok-number.ensures.ok c.in_ok-product-2.ensures

pub expr-returns-then-count-ge32 : goal.expr-returns-then-count-ge32
expr-returns-then-count-ge32 t c = full_sum _ _ c.in-Some.plus c.args.depth c.args.nodes c.loop-plus.count _ _ c.loop-plus.sum _ c.loop-plus.invariant.0 c.in-Some.ensures c.excess.ensures c.if-count-ge32.true

pub expr-returns-in_err-next : goal.expr-returns-in_err-next
expr-returns-in_err-next t c =
    let p = err_from_is_err_and c.from_residual-in_err-next.result c.from_residual-in_err-next.ensures.1 in
    let few : c.loop-plus.count < 32 = omega arith in
    rw (p.1, p.2) (lost_sum _ _ _ c.in-Some.plus c.args.depth c.args.nodes c.loop-plus.count _ _ c.loop-plus.sum c.in_err-next.field-0.0 c.loop-plus.invariant.0 c.in-Some.ensures c.advance.ensures few c.in_err-next.ensures)

pub expr-loop-plus-preserved : goal.expr-loop-plus-preserved
expr-loop-plus-preserved t c =
    let few : c.loop-plus.count < 32 = omega arith in
    (more_sum _ _ _ _ c.in-Some.plus c.args.depth c.args.nodes c.loop-plus.count c.in_ok-next.total _ _ _ c.loop-plus.sum c.in_ok-next.next c.in_ok-sum-2.sum c.loop-plus.invariant.0 c.in-Some.ensures c.advance.ensures few c.in_ok-next.ensures.0 c.in_ok-sum-2.ensures, c.in_ok-next.ensures.1)
