use Rattle.std.proofs.lemmas.Result.{err_from_is_err_and}
use Rattle.us_parse.proofs.Asking.{argument_fails, argument_unclosed, argument_goes}
use Rattle.us_parse.proofs.reading.Reader.argument.Goals as goal

pub returns-in_err-argument : goal.returns-in_err-argument
returns-in_err-argument c =
    let p = err_from_is_err_and c.from_residual-in_err-argument.result c.from_residual-in_err-argument.ensures.1 in
    rw (p.1, p.2) (argument_fails _ _ _ c.in_err-argument.field-0.0 c.requires c.in_ok-expect.ensures.ok c.in_err-argument.ensures)

pub returns-in_err-expect-2 : goal.returns-in_err-expect-2
returns-in_err-expect-2 c =
    let p = err_from_is_err_and c.from_residual-in_err-expect-2.result c.from_residual-in_err-expect-2.ensures.1 in
    rw (p.1, p.2) (argument_unclosed _ _ _ _ _ _ _ c.in_err-expect-2.field-0.0 c.requires c.in_ok-expect.ensures.ok c.in_ok-argument.ensures c.in_err-expect-2.ensures.err)

pub returns : goal.returns
returns c = argument_goes _ _ _ _ _ _ _ _ c.requires c.in_ok-expect.ensures.ok c.in_ok-argument.ensures c.in_ok-expect-2.ensures.ok
