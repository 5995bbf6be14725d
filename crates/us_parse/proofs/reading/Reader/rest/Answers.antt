use Rattle.std.proofs.Common.{◌∙◌, sym}
use Rattle.std.proofs.lemmas.Result.{err_from_is_err_and}
use Rattle.us_parse.proofs.Bodies.{rest_no_word, rest_lost, rest_unclosed, rest_goes}
use Rattle.us_parse.proofs.reading.Reader.rest.Goals as goal

pub returns-in_err-expect : goal.returns-in_err-expect
returns-in_err-expect c =
    let p = err_from_is_err_and c.from_residual.result c.from_residual.ensures.1 in
    rw (p.1, p.2) (rest_no_word _ c.in_err-expect.field-0.0 c.requires.last c.in_err-expect.ensures.err)

pub returns-in_err-part : goal.returns-in_err-part
returns-in_err-part c =
    let p = err_from_is_err_and c.from_residual-in_err-part.result c.from_residual-in_err-part.ensures.1 in
    rw (p.1, p.2) (rest_lost _ _ c.in_ok-expect.ensures.ok c.in_err-part.field-0.0 c.in_err-part.ensures)

pub returns-then-not-ends : goal.returns-then-not-ends
returns-then-not-ends c = let g = c.in_ok-part.ensures in rest_unclosed _ _ c.in_ok-expect.ensures.ok _ c.in_ok-part.part g.0 _ c.refusal.ensures (sym c.stands-ends.ensures ∙ c.if-not-ends.true)

pub returns : goal.returns
returns c = let g = c.in_ok-part.ensures in rest_goes _ _ c.in_ok-expect.ensures.ok _ c.in_ok-part.part g.0 (sym c.stands-ends.ensures ∙ c.if-not-ends.false)
