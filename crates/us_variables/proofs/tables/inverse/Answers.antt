use Rattle.std.proofs.Common.{◌≡◌, ℕ, get_or, length, refl, subst, arith}
use Rattle.us_variables.specs.Tables.{IsInverse}
use Rattle.us_variables.proofs.Inverse.{inverse-more}
use Rattle.us_variables.proofs.tables.inverse.Goals as goal

pub loop-place-preserved : goal.loop-place-preserved
loop-place-preserved c =
    inverse-more c.args.order.now c.loop-place.places.items _ c.loop-place.place (get_or c.args.order.now c.loop-place.place 0) 0 c.loop-place-test.true refl (c.requires.below c.loop-place.place 0 c.loop-place-test.true) refl
    c.loop-place.invariant

pub returns : goal.returns
returns c =
    let all : c.loop-place.place ≡ length c.args.order.now = omega arith in
    subst (λ (k : ℕ). IsInverse c.args.order.now k c.loop-place.places.items) all c.loop-place.invariant
