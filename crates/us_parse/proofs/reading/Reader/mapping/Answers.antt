use Rattle.std.proofs.lemmas.Result.{err_from_is_err_and}
use Rattle.us_parse.proofs.Storing.{mapping_no_map, mapping_no_open, mapping_reads}
use Rattle.us_parse.proofs.reading.Reader.mapping.Goals as goal

pub returns-in_err-expect : goal.returns-in_err-expect
returns-in_err-expect c =
    let p = err_from_is_err_and c.from_residual.result c.from_residual.ensures.1 in
    rw (p.1, p.2) (mapping_no_map _ _ c.in_err-expect.field-0.0 c.requires.queries c.in_err-expect.ensures.err)

pub returns-in_err-expect-2 : goal.returns-in_err-expect-2
returns-in_err-expect-2 c =
    let p = err_from_is_err_and c.from_residual-in_err-expect-2.result c.from_residual-in_err-expect-2.ensures.1 in
    rw (p.1, p.2) (mapping_no_open _ _ _ c.in_err-expect-2.field-0.0 c.in_ok-expect.ensures.ok c.in_err-expect-2.ensures.err)

pub returns : goal.returns
returns c = mapping_reads _ _ _ _ c.requires.names c.in_ok-expect.ensures.ok c.in_ok-expect-2.ensures.ok _ _ _ c.levels.ensures
