use Rattle.std.proofs.Common.{◌≡◌, ◌+◌, ◌<◌, ℕ, false}
use Rattle.us_format.specs.Climb.{is_parent}
use Rattle.us_climb.proofs.climbing.parent_in_turn.Given as goal

abbrev pub invariant-loop-p : goal.invariant-loop-p
invariant-loop-p l = (k : ℕ) → k + 1 < l.p → is_parent l.starts l.x k ≡ false
