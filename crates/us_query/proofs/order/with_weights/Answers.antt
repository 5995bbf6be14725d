use Rattle.std.proofs.Common.{refl}
use Rattle.us_query.proofs.Ranking.{weighted-next, weighted-end}
use Rattle.us_query.proofs.order.with_weights.Goals as goal

pub loop-index-preserved : goal.loop-index-preserved
loop-index-preserved c =
    weighted-next c.args.weights.now c.loop-index.index c.loop-index.made.items c.push.new.self.items _ c.loop-index-test.true c.in_ok-push.ensures.items refl c.loop-index.invariant

pub returns : goal.returns
returns c = weighted-end c.args.weights.now c.loop-index.index c.loop-index.made.items c.loop-index-test.false c.loop-index.invariant
