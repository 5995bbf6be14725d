use Rattle.std.proofs.Common.{◌<◌, ◌≤◌, arith, length, inl, inr}
use Rattle.std.proofs.lemmas.Result.{err_from_is_err_and}
use Rattle.us_parse.proofs.reading.Reader.level.Goals as goal

pub returns-then-count-ge16 : goal.returns-then-count-ge16
returns-then-count-ge16 c = inr (let full : 16 ≤ length c.args.levels.now = omega (arith, c.len-count.ensures, c.if-count-ge16.true) in full, c.surplus_operand.ensures)

pub returns-in_err-level : goal.returns-in_err-level
returns-in_err-level c =
    let p = err_from_is_err_and c.from_residual.result c.from_residual.ensures.1 in
    let room : length c.args.levels.now < 16 = omega (arith, c.len-count.ensures, c.if-count-ge16.false) in
    rw (p.1, p.2) (inl (room, c.in_err-level.ensures))

pub returns-in_err-push : goal.returns-in_err-push
returns-in_err-push c =
    let p = err_from_is_err_and c.from_residual-in_err-push.result c.from_residual-in_err-push.ensures.1 in
    let room : length c.args.levels.now < 16 = omega (arith, c.len-count.ensures, c.if-count-ge16.false) in
    rw (p.1, p.2) (inl (room, λ u h os a b d e f g. tt))

pub returns : goal.returns
returns c =
    let room : length c.args.levels.now < 16 = omega (arith, c.len-count.ensures, c.if-count-ge16.false) in
    record { level = c.in_ok-level.level; nodes = _; goes = c.in_ok-level.ensures.0; product = c.in_ok-level.ensures.1; sum = c.in_ok-level.ensures.2; room = room; grown = c.in_ok-push.ensures.ok }
