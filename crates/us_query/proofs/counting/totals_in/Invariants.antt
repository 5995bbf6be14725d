use Rattle.std.proofs.Common.{◌≡◌, map, take}
use Rattle.us_query.specs.Counts.{below, times}
use Rattle.us_query.proofs.counting.totals_in.Given as goal

abbrev pub invariant-loop-at : goal.invariant-loop-at
invariant-loop-at l = (l.place ≡ below l.sorted l.last) × (l.totals.items ≡ map (times l.numbers) (take l.at l.numbers))
