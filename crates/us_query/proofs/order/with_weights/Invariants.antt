use Rattle.std.proofs.Common.{◌≡◌, map, take, length}
use Rattle.std.specs.List.{range_with_len}
use Rattle.us_query.specs.Ranked.{ranked_at}
use Rattle.us_query.proofs.order.with_weights.Given as goal

abbrev pub invariant-loop-index : goal.invariant-loop-index
invariant-loop-index l = l.made.items ≡ map (ranked_at l.weights) (take l.index (range_with_len 0 (length l.weights)))
