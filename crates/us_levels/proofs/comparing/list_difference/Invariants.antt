use Rattle.std.proofs.Common.{◌≡◌, ◌<◌, ℕ, true, int_eq}
use Rattle.us_format.specs.Lists.{cell}
use Rattle.us_levels.proofs.comparing.list_difference.Given as goal

abbrev pub invariant-loop-x : goal.invariant-loop-x
invariant-loop-x l = (k : ℕ) → k < l.x → int_eq (cell l.have k) (cell l.want k) ≡ true
