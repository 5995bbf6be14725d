use Rattle.std.proofs.Common.{◌≡◌, ◌++◌, take}
use Rattle.us_parts.proofs.building.append.Given as goal

abbrev pub invariant-loop-k : goal.invariant-loop-k
invariant-loop-k l = l.lists ≡ l.initial.lists ++ take l.k l.more
