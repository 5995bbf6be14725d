use Rattle.std.proofs.lemmas.Result.{err_from_is_err_and}
use Rattle.us_parse.proofs.Packing.{pack_lost, pack_unclosed, pack_goes}
use Rattle.us_parse.proofs.parts.pack.Goals as goal

pub returns-in_err-columns : goal.returns-in_err-columns
returns-in_err-columns c =
    let p = err_from_is_err_and c.from_residual-in_err-columns.result c.from_residual-in_err-columns.ensures.1 in
    rw (p.1, p.2) (pack_lost _ _ c.in_err-columns.field-0.0 c.in_ok-expect.ensures.ok c.in_err-columns.ensures)

pub returns-in_err-expect-2 : goal.returns-in_err-expect-2
returns-in_err-expect-2 c =
    let p = err_from_is_err_and c.from_residual-in_err-expect-2.result c.from_residual-in_err-expect-2.ensures.1 in
    rw (p.1, p.2) (pack_unclosed _ _ _ c.in_ok-columns.columns c.in_err-expect-2.field-0.0 c.in_ok-expect.ensures.ok c.in_ok-columns.ensures c.in_err-expect-2.ensures.err)

pub returns : goal.returns
returns c = pack_goes _ _ _ _ c.in_ok-columns.columns c.in_ok-expect.ensures.ok c.in_ok-columns.ensures c.in_ok-expect-2.ensures.ok
