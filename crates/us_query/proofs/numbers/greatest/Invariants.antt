use Rattle.std.proofs.Common.{◌≡◌, take}
use Rattle.us_format.specs.Lists.{greatest}
use Rattle.us_query.proofs.numbers.greatest.Given as goal

abbrev pub invariant-loop-n : goal.invariant-loop-n
invariant-loop-n l = l.most ≡ greatest (take l.n-index l.numbers)
