use Rattle.std.proofs.Common.{ℕ, ◌<◌, get_or}
use Rattle.us_matrix.specs.declared.matrix.Triple.{Triple}
use Rattle.us_matrix.specs.Map.{place}
use Rattle.us_changes.proofs.merging.count_below.Given as goal

abbrev pub invariant-loop-k : goal.invariant-loop-k
invariant-loop-k l = (j : ℕ) (d : Triple) → j < l.k → place (get_or l.rest j d) < l.wanted
