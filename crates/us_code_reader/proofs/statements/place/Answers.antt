use Rattle.std.proofs.Common.{◌∙◌}
use Rattle.std.proofs.lemmas.Result.{err_from_is_err_and}
use Rattle.us_code_text.specs.Reads.{answer_of}
use Rattle.us_code_text.proofs.Chains.{via}
use Rattle.us_code_reader.proofs.statements.place.Goals as goal

pub returns-in_err-expect : goal.returns-in_err-expect
returns-in_err-expect c =
    let p = err_from_is_err_and c.from_residual.result c.from_residual.ensures.1 in
    rw (p.1, p.2) (λ y s k. c.in_err-expect.ensures _ _ k)

pub returns-in_err-at : goal.returns-in_err-at
returns-in_err-at c =
    let p = err_from_is_err_and c.from_residual-in_err-at.result c.from_residual-in_err-at.ensures.1 in
    rw (p.1, p.2) (λ y s k. via (answer_of c.in_err-at.field-0.0) (c.in_ok-expect.ensures.0 _ _ k) (c.in_err-at.ensures _ _ _))

pub returns-in_err-expect-2 : goal.returns-in_err-expect-2
returns-in_err-expect-2 c =
    let p = err_from_is_err_and c.from_residual-in_err-expect-2.result c.from_residual-in_err-expect-2.ensures.1 in
    rw (p.1, p.2) (λ y s k. via (answer_of c.in_err-expect-2.field-0.0) (c.in_ok-expect.ensures.0 _ _ k ∙ c.in_ok-at.ensures.0 _ _ _) (c.in_err-expect-2.ensures _ _ _))
