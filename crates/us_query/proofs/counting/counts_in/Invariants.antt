use Rattle.std.proofs.Common.{◌≡◌, take}
use Rattle.us_query.specs.Counts.{AreCounts, below}
use Rattle.us_query.proofs.counting.counts_in.Given as goal

abbrev pub invariant-loop-at : goal.invariant-loop-at
invariant-loop-at l = (l.place ≡ below l.sorted l.last) × AreCounts l.numbers (take l.at l.numbers) l.counts.items
