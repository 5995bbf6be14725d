use Rattle.std.proofs.Common.{length}
use Rattle.us_query.specs.Lanes.{numbers_in}
use Rattle.us_query.proofs.Filling.{IsFilling}
use Rattle.us_query.proofs.lanes.fill.Given as goal

abbrev pub invariant-loop-index : goal.invariant-loop-index
invariant-loop-index l = IsFilling (length l.fn.lanes) l.weights l.index (numbers_in l.lanes) l.loads l.places.items
