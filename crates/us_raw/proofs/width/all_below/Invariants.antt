use Rattle.std.proofs.Common.{◌<◌, ℕ, pos, get_or, ◌≤ℤ◌, ◌<ℤ◌}
use Rattle.us_raw.proofs.width.all_below.Given as goal

abbrev pub invariant-loop-index : goal.invariant-loop-index
invariant-loop-index l = (i : ℕ) → i < l.index → (pos 0 ≤ℤ get_or l.cells i (pos 0)) × (get_or l.cells i (pos 0) <ℤ l.bound)
