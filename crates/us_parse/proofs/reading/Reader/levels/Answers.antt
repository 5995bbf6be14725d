use Rattle.std.proofs.lemmas.Result.{err_from_is_err_and}
use Rattle.us_parse.proofs.Mapping.{empty_map, first_level_at, first_level_lost, next_level, next_level_fails, map_open_end, map_whole, level_smaller}
use Rattle.us_parse.proofs.reading.Reader.levels.Goals as goal

pub returns-then-take : goal.returns-then-take
returns-then-take c = empty_map _ _ _ _ c.requires (c.take.ensures.taken c.if-take.true) c.new-levels.ensures

pub returns-in_err-level : goal.returns-in_err-level
returns-in_err-level c =
    let p = err_from_is_err_and c.from_residual.result c.from_residual.ensures.1 in
    rw (p.1, p.2) (first_level_lost _ _ _ c.new-levels.result c.in_err-level.field-0.0 (c.take.ensures.same c.if-take.false) (c.take.ensures.other c.if-take.false) c.new-levels.ensures c.in_err-level.ensures)

pub more-init : goal.more-init
more-init c = first_level_at _ _ _ _ _ c.new-levels.result _ (c.take.ensures.same c.if-take.false) (c.take.ensures.other c.if-take.false) c.new-levels.ensures c.in_ok-level.ensures

pub more-preserved : goal.more-preserved
more-preserved c = next_level _ _ _ _ _ c.more.levels c.more.invariant _ _ _ (c.take-in-more.ensures.taken c.more-test.true) c.in_ok-level-2.ensures

pub more-smaller : goal.more-smaller
more-smaller c = level_smaller _ _ _ _ _ c.more.levels _ (c.take-in-more.ensures.taken c.more-test.true) c.in_ok-level-2.ensures

pub returns-in_err-level-2 : goal.returns-in_err-level-2
returns-in_err-level-2 c =
    let p = err_from_is_err_and c.from_residual-in_err-level-2.result c.from_residual-in_err-level-2.ensures.1 in
    rw (p.1, p.2) (next_level_fails _ _ _ _ _ c.more.levels c.more.invariant c.in_err-level-2.field-0.0 (c.take-in-more.ensures.taken c.more-test.true) c.in_err-level-2.ensures)

pub returns-in_err-expect : goal.returns-in_err-expect
returns-in_err-expect c =
    let p = err_from_is_err_and c.from_residual-in_err-expect.result c.from_residual-in_err-expect.ensures.1 in
    rw (p.1, p.2) (map_open_end _ _ _ _ _ c.more.levels c.in_err-expect.field-0.0 c.more.invariant (c.take-in-more.ensures.same c.more-test.false) (c.take-in-more.ensures.other c.more-test.false) c.in_err-expect.ensures.err)

pub returns : goal.returns
returns c = map_whole _ _ _ _ _ _ c.more.levels c.more.invariant (c.take-in-more.ensures.same c.more-test.false) c.in_ok-expect.ensures.ok
