use Rattle.std.proofs.Common.{◌<◌, ◌≤◌, arith, refl, length, ◌∙◌, sym}
use Rattle.std.proofs.lemmas.Result.{err_from_is_err_and}
use Rattle.us_parse.proofs.Storing.{start_packs, full_packs, lost_pack, more_packs, packs_smaller}
use Rattle.us_parse.proofs.parts.packs.Goals as goal

pub more-init : goal.more-init
more-init c = start_packs _ _ c.new-packs.ensures

pub returns-then-count-ge16 : goal.returns-then-count-ge16
returns-then-count-ge16 c =
    let full : 16 ≤ length c.more.packs = omega (arith, c.len-count.ensures, c.if-count-ge16.true) in
    full_packs _ _ _ c.more.packs c.more.invariant (sym c.stands.ensures ∙ c.more-test.true) refl _ c.excess.ensures full

pub returns-in_err-pack : goal.returns-in_err-pack
returns-in_err-pack c =
    let p = err_from_is_err_and c.from_residual.result c.from_residual.ensures.1 in
    let room : length c.more.packs < 16 = omega (arith, c.len-count.ensures, c.if-count-ge16.false) in
    rw (p.1, p.2) (lost_pack _ _ _ c.more.packs c.more.invariant (sym c.stands.ensures ∙ c.more-test.true) c.advance.ensures c.in_err-pack.field-0.0 room c.in_err-pack.ensures)

pub more-smaller : goal.more-smaller
more-smaller c = packs_smaller _ _ _ c.more.packs c.more.invariant (sym c.stands.ensures ∙ c.more-test.true) c.advance.ensures _ c.in_ok-pack.pack c.in_ok-pack.ensures

pub more-preserved : goal.more-preserved
more-preserved c =
    let room : length c.more.packs < 16 = omega (arith, c.len-count.ensures, c.if-count-ge16.false) in
    more_packs _ _ _ c.more.packs c.more.invariant (sym c.stands.ensures ∙ c.more-test.true) c.advance.ensures _ c.in_ok-pack.pack _ room c.in_ok-pack.ensures c.in_ok-push.ensures.ok

pub returns : goal.returns
returns c = (c.more.invariant, sym c.stands.ensures ∙ c.more-test.false)
