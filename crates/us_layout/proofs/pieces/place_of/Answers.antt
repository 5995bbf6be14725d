use Rattle.std.proofs.Common.{◌≡◌, ◌∙◌, false, length, sym, true, arith}
use borrow.Author.Count.{below_more}
use Rattle.us_layout.proofs.Arranged.{place-found, same-at}
use Rattle.us_layout.proofs.pieces.place_of.Goals as goal

pub loop-place-preserved : goal.loop-place-preserved
loop-place-preserved c = below_more _ _ c.loop-place.invariant (same-at c.args.pieces.now c.args.piece _ c.loop-place.place false c.loop-place-test.true (sym c.is_same.ensures ∙ c.if-is_same.false))

pub returns-then-is_same : goal.returns-then-is_same
returns-then-is_same c =
    place-found c.args.pieces.now c.args.piece c.loop-place.place c.loop-place.auto.place-end c.loop-place.invariant
    (λ _. same-at c.args.pieces.now c.args.piece _ c.loop-place.place true c.loop-place-test.true (sym c.is_same.ensures ∙ c.if-is_same.true))

pub returns : goal.returns
returns c =
    let all : c.loop-place.place ≡ length c.args.pieces.now = omega arith in
    sym all ∙ place-found c.args.pieces.now c.args.piece c.loop-place.place c.loop-place.auto.place-end c.loop-place.invariant (λ l. absurd (omega (arith, l)))
