use Rattle.std.proofs.Common.{◌<◌, ◌≤◌, arith, length}
use Rattle.std.proofs.lemmas.Result.{err_from_is_err_and}
use Rattle.us_decl.specs.Limits.{fits_column}
use Rattle.us_parse.specs.ReadsParts.{column_token, has_column, column_fault}
use Rattle.us_parse.proofs.Mapping.{series_first, series_lost, series_full, series_missed, series_more, series_size, series_end, comma_smaller}
use Rattle.us_parse.proofs.parts.columns.Goals as goal

pub returns-in_err-first : goal.returns-in_err-first
returns-in_err-first c =
    let p = err_from_is_err_and c.from_residual.result c.from_residual.ensures.1 in
    rw (p.1, p.2) (series_lost column_token fits_column has_column column_fault _ c.in_err-first.field-0.0 c.in_err-first.ensures.err)

pub more-init : goal.more-init
more-init c = series_first column_token fits_column has_column column_fault _ _ c.in_ok-first.first c.new-columns.result _ c.in_ok-first.ensures.ok c.new-columns.ensures c.in_ok-push.ensures.ok

pub more-preserved : goal.more-preserved
more-preserved c =
    let room : length c.more.columns < 16 = omega (arith, c.len-count.ensures, c.if-count-ge16.false) in
    let t = c.in_ok-next.ensures.ok in
    (series_more column_token fits_column has_column column_fault _ _ _ c.more.columns c.more.invariant.0 (c.take.ensures.taken c.more-test.true) _ c.in_ok-next.next _ room c.in_ok-next.ensures.ok c.in_ok-push-2.ensures.ok, series_size _ _ _ _ _ c.more.invariant.1 (c.take.ensures.taken c.more-test.true) t.0)

pub more-smaller : goal.more-smaller
more-smaller c = let t = c.in_ok-next.ensures.ok in comma_smaller _ _ _ _ (c.take.ensures.taken c.more-test.true) t.0

pub returns-then-count-ge16 : goal.returns-then-count-ge16
returns-then-count-ge16 c =
    let full : 16 ≤ length c.more.columns = omega (arith, c.len-count.ensures, c.if-count-ge16.true) in
    series_full column_token fits_column has_column column_fault _ _ _ c.more.columns c.more.invariant.0 (c.take.ensures.taken c.more-test.true) _ c.surplus_column.ensures full

pub returns-in_err-next : goal.returns-in_err-next
returns-in_err-next c =
    let p = err_from_is_err_and c.from_residual-in_err-next.result c.from_residual-in_err-next.ensures.1 in
    rw (p.1, p.2) (series_missed column_token fits_column has_column column_fault _ _ _ c.more.columns c.more.invariant.0 (c.take.ensures.taken c.more-test.true) c.in_err-next.field-0.0 c.in_err-next.ensures.err)

pub returns : goal.returns
returns c = series_end column_token fits_column has_column column_fault _ _ _ c.more.columns c.more.invariant (c.take.ensures.same c.more-test.false) (c.take.ensures.other c.more-test.false)
