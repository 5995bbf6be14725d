use Rattle.std.proofs.Common.{◌∙◌, sym, []}
use Rattle.std.proofs.lemmas.Result.{err_from_is_err_and}
use Rattle.us_parse.proofs.Bodies.{body_divided, body_whole, body_lost}
use Rattle.us_parse.proofs.reading.Reader.body.Goals as goal

pub divided-requires : goal.divided-requires
divided-requires c = let g = c.in_ok-queries.ensures in record { names = (g.0).known; part = sym c.stands-divided.ensures ∙ c.if-divided.true }

pub part-requires : goal.part-requires
part-requires c = let g = c.in_ok-queries.ensures in record { names = (g.0).known; queries = g.1 }

pub returns-then-divided : goal.returns-then-divided
returns-then-divided c = let g = c.in_ok-queries.ensures in body_divided _ _ _ _ c.in_ok-queries.queries _ g.0 c.divided.ensures

pub returns-in_err-part : goal.returns-in_err-part
returns-in_err-part c =
    let p = err_from_is_err_and c.from_residual-in_err-part.result c.from_residual-in_err-part.ensures.1 in
    rw (p.1, p.2) (let g = c.in_ok-queries.ensures in body_lost _ _ _ [] c.in_ok-queries.queries c.in_err-part.field-0.0 g.0 (sym c.stands-divided.ensures ∙ c.if-divided.false) c.in_err-part.ensures)

pub returns : goal.returns
returns c = let g = c.in_ok-queries.ensures in let h = c.in_ok-part.ensures in body_whole _ _ _ _ c.in_ok-queries.queries c.in_ok-part.part g.0 (sym c.stands-divided.ensures ∙ c.if-divided.false) h.0
