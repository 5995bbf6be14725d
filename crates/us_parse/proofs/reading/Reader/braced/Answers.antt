use Rattle.std.proofs.Common.{[]}
use Rattle.std.proofs.lemmas.Result.{err_from_is_err_and}
use Rattle.us_parse.proofs.Bodies.{braced_no_open, braced_lost, braced_goes}
use Rattle.us_parse.proofs.reading.Reader.braced.Goals as goal

pub returns-in_err-expect : goal.returns-in_err-expect
returns-in_err-expect c =
    let p = err_from_is_err_and c.from_residual.result c.from_residual.ensures.1 in
    rw (p.1, p.2) (braced_no_open _ c.in_err-expect.field-0.0 c.in_err-expect.ensures.err)

pub returns-in_err-part : goal.returns-in_err-part
returns-in_err-part c =
    let p = err_from_is_err_and c.from_residual-in_err-part.result c.from_residual-in_err-part.ensures.1 in
    rw (p.1, p.2) (braced_lost _ _ [] c.in_err-part.field-0.0 c.in_ok-expect.ensures.ok c.in_err-part.ensures)

pub returns : goal.returns
returns c = let g = c.in_ok-part.ensures in (braced_goes _ _ _ _ c.in_ok-part.part c.in_ok-expect.ensures.ok g.0 c.advance.ensures, g.1)
