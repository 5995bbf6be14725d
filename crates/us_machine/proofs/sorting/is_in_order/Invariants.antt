use Rattle.std.proofs.Common.{◌≡◌, ◌+◌, ◌<◌, ℕ, false}
use Rattle.us_code.specs.Sort.{before}
use Rattle.us_machine.specs.Sorting.{lists_at}
use Rattle.us_machine.proofs.sorting.is_in_order.Given as goal

abbrev pub invariant-loop-x : goal.invariant-loop-x
invariant-loop-x l = (k : ℕ) → k + 1 < l.x → before (lists_at l.region.lists l.segs) (k + 1) k ≡ false
