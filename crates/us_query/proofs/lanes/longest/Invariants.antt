use Rattle.std.proofs.Common.{◌≡◌, length, map, take}
use Rattle.us_format.specs.Lists.{greatest}
use Rattle.us_query.specs.Lanes.{numbers_in}
use Rattle.us_query.proofs.lanes.longest.Given as goal

abbrev pub invariant-loop-lane : goal.invariant-loop-lane
invariant-loop-lane l = l.most ≡ greatest (map length (take l.lane (numbers_in l.lanes)))
