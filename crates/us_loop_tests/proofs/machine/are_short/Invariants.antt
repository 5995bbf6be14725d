use Rattle.std.proofs.Common.{◌<◌, ◌≤◌, ℕ, ℤ, List, length, slice_index_or}
use Rattle.us_loop_tests.proofs.machine.are_short.Given as goal

abbrev pub invariant-loop-k : goal.invariant-loop-k
invariant-loop-k l = (x : ℕ) (d : List ℤ) → x < l.k → length (slice_index_or l.lists x d) ≤ 67108864
