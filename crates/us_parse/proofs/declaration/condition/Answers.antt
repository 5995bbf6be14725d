use Rattle.std.proofs.lemmas.Result.{err_from_is_err_and}
use Rattle.us_parse.proofs.Bodies.{condition_no_when, condition_no_name, condition_no_sign, condition_no_bound, condition_goes}
use Rattle.us_parse.proofs.declaration.condition.Goals as goal

pub returns-in_err-expect : goal.returns-in_err-expect
returns-in_err-expect c =
    let p = err_from_is_err_and c.from_residual.result c.from_residual.ensures.1 in
    rw (p.1, p.2) (condition_no_when _ _ _ c.requires.part c.advance.ensures c.in_err-expect.field-0.0 c.in_err-expect.ensures.err)

pub returns-in_err-var : goal.returns-in_err-var
returns-in_err-var c =
    let p = err_from_is_err_and c.from_residual-in_err-var.result c.from_residual-in_err-var.ensures.1 in
    rw (p.1, p.2) (condition_no_name _ _ _ c.requires.part c.advance.ensures _ c.in_ok-expect.ensures.ok c.in_err-var.field-0.0 c.in_err-var.ensures.err)

pub returns-in_err-less : goal.returns-in_err-less
returns-in_err-less c =
    let p = err_from_is_err_and c.from_residual-in_err-less.result c.from_residual-in_err-less.ensures.1 in
    rw (p.1, p.2) (condition_no_sign _ _ _ c.requires.part c.advance.ensures _ c.in_ok-expect.ensures.ok _ _ _ c.in_ok-var.ensures.ok c.in_err-less.field-0.0 c.in_err-less.ensures.err)

pub returns-in_err-bound : goal.returns-in_err-bound
returns-in_err-bound c =
    let p = err_from_is_err_and c.from_residual-in_err-bound.result c.from_residual-in_err-bound.ensures.1 in
    rw (p.1, p.2) (condition_no_bound _ _ _ c.requires.part c.advance.ensures _ c.in_ok-expect.ensures.ok _ _ _ c.in_ok-var.ensures.ok _ c.in_ok-less.less c.in_ok-less.ensures.ok c.in_err-bound.field-0.0 c.in_err-bound.ensures.err)

pub returns : goal.returns
returns c = condition_goes _ _ _ c.requires.part c.advance.ensures _ c.in_ok-expect.ensures.ok _ _ _ c.in_ok-var.ensures.ok _ c.in_ok-less.less c.in_ok-less.ensures.ok _ c.in_ok-bound.bound c.in_ok-bound.ensures.ok
