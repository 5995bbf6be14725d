use Rattle.std.proofs.Common.{take}
use Rattle.us_query.proofs.Tallies.{IsTally}
use Rattle.us_query.proofs.weights.tally.Given as goal

abbrev pub invariant-loop-t : goal.invariant-loop-t
invariant-loop-t l = IsTally l.axis l.count (take l.t-index l.entries) l.weights.items
