use Rattle.std.proofs.Common.{◌<◌, ◌≤◌, ◌∷◌, [], arith, length, ap, length-append, ◌∙◌, sym}
use Rattle.std.proofs.lemmas.Result.{err_from_is_err_and}
use Rattle.us_parse.proofs.Bodies.{start_blocks, full_blocks, lost_condition, lost_block, more_blocks}
use Rattle.us_parse.proofs.reading.Reader.blocks.Goals as goal

pub more-init : goal.more-init
more-init c = (start_blocks _ _ _ _ c.requires.known c.requires.none c.new-parts.ensures, c.requires.own)

pub returns-then-count-ge-MOST_CONDITIONS : goal.returns-then-count-ge-MOST_CONDITIONS
returns-then-count-ge-MOST_CONDITIONS c =
    let full : 3 ≤ length c.more.parts = omega (arith, c.len-count.ensures, c.if-count-ge-MOST_CONDITIONS.true) in
    full_blocks _ _ _ _ c.more.conds c.more.parts c.more.invariant.0 (sym c.stands.ensures ∙ c.more-test.true) _ c.excess.ensures full

pub condition-requires : goal.condition-requires
condition-requires c = record { known = (c.more.invariant.0).known; part = sym c.stands.ensures ∙ c.more-test.true }

pub returns-in_err-cond : goal.returns-in_err-cond
returns-in_err-cond c =
    let p = err_from_is_err_and c.from_residual.result c.from_residual.ensures.1 in
    let room : length c.more.parts < 3 = omega (arith, c.len-count.ensures, c.if-count-ge-MOST_CONDITIONS.false) in
    rw (p.1, p.2) (lost_condition _ _ _ _ c.more.conds c.more.parts c.more.invariant.0 (sym c.stands.ensures ∙ c.more-test.true) room c.in_err-cond.field-0.0 c.in_err-cond.ensures)

pub returns-in_err-part : goal.returns-in_err-part
returns-in_err-part c =
    let p = err_from_is_err_and c.from_residual-in_err-part.result c.from_residual-in_err-part.ensures.1 in
    let room : length c.more.parts < 3 = omega (arith, c.len-count.ensures, c.if-count-ge-MOST_CONDITIONS.false) in
    rw (p.1, p.2) (lost_block _ _ _ _ c.more.conds c.more.parts c.more.invariant.0 (sym c.stands.ensures ∙ c.more-test.true) room _ _ c.in_ok-cond.cond c.in_ok-cond.ensures c.in_err-part.field-0.0 c.in_err-part.ensures)

pub more-smaller : goal.more-smaller
more-smaller c = omega (arith, c.len-count.ensures, c.if-count-ge-MOST_CONDITIONS.false, ap length c.in_ok-push-2.ensures.ok, length-append c.more.parts (c.in_ok-part.part ∷ []))

pub more-preserved : goal.more-preserved
more-preserved c =
    let room : length c.more.parts < 3 = omega (arith, c.len-count.ensures, c.if-count-ge-MOST_CONDITIONS.false) in
    let g = c.in_ok-part.ensures in
    (more_blocks _ _ _ _ c.more.conds c.more.parts c.more.invariant.0 (sym c.stands.ensures ∙ c.more-test.true) room _ _ c.in_ok-cond.cond c.in_ok-cond.ensures _ c.in_ok-part.part g.0 _ _ c.in_ok-push.ensures.ok c.in_ok-push-2.ensures.ok, g.1)

pub returns : goal.returns
returns c = (c.more.invariant.0, sym c.stands.ensures ∙ c.more-test.false, c.more.invariant.1)
