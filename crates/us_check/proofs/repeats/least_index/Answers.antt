use Rattle.std.proofs.Common.{◌≡◌, ◌+◌, ◌-◌, arith, inl, inr}
use Rattle.us_check.proofs.Repeated.{least-none, least-more, least-end}
use Rattle.us_check.proofs.repeats.least_index.Goals as goal

pub loop-k-init : goal.loop-k-init
loop-k-init c = (least-none c.args.places.now, inl (omega arith))

pub loop-k-preserved : goal.loop-k-preserved
loop-k-preserved c =
    let e : c.loop-k.k ≡ (c.loop-k.k - 1) + 1 = omega arith in
    (rw c.looked_at-least.ensures (least-more c.args.places.now (c.loop-k.k - 1) c.loop-k.k c.loop-k.least e c.loop-k.invariant.0), inr (omega arith))

pub returns : goal.returns
returns c = least-end c.args.places.now c.loop-k.k c.loop-k.least c.loop-k-test.false c.loop-k.invariant.1 c.loop-k.invariant.0
