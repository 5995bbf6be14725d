use Rattle.us_query.proofs.Placing.{empties-more}
use Rattle.us_query.proofs.lanes.empty.Goals as goal

pub loop-preserved : goal.loop-preserved
loop-preserved c = empties-more c.loop.lanes.items c.push.new.self.items c.new.result c.loop.counter c.loop.invariant c.in_ok-push.ensures.items c.new.ensures.items
