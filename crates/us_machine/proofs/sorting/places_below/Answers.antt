use Rattle.us_machine.proofs.Sortings.{range_next}
use Rattle.us_machine.proofs.sorting.places_below.Goals as goal

pub loop-x-preserved : goal.loop-x-preserved
loop-x-preserved c = range_next c.loop-x.x c.loop-x.places.items c.push.new.self.items c.loop-x.invariant c.in_ok-push.ensures.items
