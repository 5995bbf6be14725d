use Rattle.std.proofs.Common.{◌<◌, ℕ, Some}
use Rattle.std.specs.Prelude.{slice_get, ◌≢◌}
use Rattle.us_known.proofs.table.find.Given as goal

-- no node so far is the wanted one
abbrev pub invariant-loop-n : goal.invariant-loop-n
invariant-loop-n l = (k : ℕ) → k < l.n → slice_get l.nodes k ≢ Some l.wanted
