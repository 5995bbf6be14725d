use Rattle.std.proofs.Common.{◌≡◌, ◌++◌, take, drop}
use Rattle.us_query.specs.Counts.{AreCounts, below, ranks_after, ranks}
use Rattle.us_query.proofs.counting.ranks_in.Given as goal

abbrev pub invariant-loop-at : goal.invariant-loop-at
invariant-loop-at l =
    (l.place ≡ below l.sorted l.last) × AreCounts l.numbers (take l.at l.numbers) l.counts.items
    × (l.ranks.items ++ ranks_after (take l.at l.numbers) (drop l.at l.numbers) ≡ ranks l.numbers)
