use Rattle.std.proofs.Common.{◌≡◌, map, take}
use Rattle.us_query.proofs.order.indices_of.Given as goal

abbrev pub invariant-loop-r : goal.invariant-loop-r
invariant-loop-r l = l.indices.items ≡ map (λ r. r.index) (take l.r-index l.weighted)
