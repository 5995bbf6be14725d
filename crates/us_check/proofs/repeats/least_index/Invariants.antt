use Rattle.std.proofs.Common.{◌≤◌, ◌⊎◌, length}
use Rattle.us_check.specs.Repeats.{IsLeastIndex}
use Rattle.us_check.proofs.repeats.least_index.Given as goal

abbrev pub invariant-loop-k : goal.invariant-loop-k
invariant-loop-k l = IsLeastIndex l.places l.k l.least × ((l.k ≤ 1) ⊎ (l.k ≤ length l.places))
