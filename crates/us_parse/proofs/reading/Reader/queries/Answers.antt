use Rattle.std.proofs.Common.{◌<◌, ◌≤◌, arith, length, ◌∙◌, sym}
use Rattle.std.proofs.lemmas.Result.{err_from_is_err_and}
use Rattle.us_parse.proofs.Asking.{start_queries, pushed_query, query_smaller, query_beyond, query_lost}
use Rattle.us_parse.proofs.reading.Reader.queries.Goals as goal

pub loop-queries-init : goal.loop-queries-init
loop-queries-init c = start_queries _ _ _ c.requires c.new-queries.ensures

pub returns-then-count-ge16 : goal.returns-then-count-ge16
returns-then-count-ge16 c =
    let full : 16 ≤ length c.loop-queries.queries = omega (arith, c.len-count.ensures, c.if-count-ge16.true) in
    query_beyond _ _ _ _ _ c.loop-queries.invariant (sym c.stands.ensures ∙ c.loop-queries-test.true) c.excess.ensures full

pub query-requires : goal.query-requires
query-requires c = c.loop-queries.invariant.known

pub returns-in_err-query : goal.returns-in_err-query
returns-in_err-query c =
    let p = err_from_is_err_and c.from_residual.result c.from_residual.ensures.1 in
    let room : length c.loop-queries.queries < 16 = omega (arith, c.len-count.ensures, c.if-count-ge16.false) in
    rw (p.1, p.2) (query_lost _ _ _ _ c.loop-queries.queries c.in_err-query.field-0.0 c.loop-queries.invariant (sym c.stands.ensures ∙ c.loop-queries-test.true) c.advance.ensures room c.in_err-query.ensures)

pub loop-queries-smaller : goal.loop-queries-smaller
loop-queries-smaller c = query_smaller _ _ _ _ _ c.in_ok-query.query (sym c.stands.ensures ∙ c.loop-queries-test.true) c.advance.ensures c.in_ok-query.ensures

pub loop-queries-preserved : goal.loop-queries-preserved
loop-queries-preserved c =
    let room : length c.loop-queries.queries < 16 = omega (arith, c.len-count.ensures, c.if-count-ge16.false) in
    pushed_query _ _ _ _ _ _ c.loop-queries.queries _ c.in_ok-query.query c.loop-queries.invariant (sym c.stands.ensures ∙ c.loop-queries-test.true) c.advance.ensures room c.in_ok-query.ensures c.in_ok-push.ensures.ok

pub returns : goal.returns
returns c = (c.loop-queries.invariant, sym c.stands.ensures ∙ c.loop-queries-test.false)
