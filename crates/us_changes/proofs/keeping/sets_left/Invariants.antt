use Rattle.std.proofs.Common.{◌≡◌, ◌≤◌, List, length, take}
use Rattle.std.specs.List.{All}
use Rattle.us_matrix.specs.declared.matrix.Triple.{Triple}
use Rattle.us_changes.specs.Edits.{start, after_all}
use Rattle.us_changes.specs.Keeping.{IsPut, made}
use Rattle.us_changes.proofs.keeping.sets_left.Given as goal

abbrev pub invariant-loop-step : goal.invariant-loop-step
invariant-loop-step l = record {
  state : (es : List Triple) → made es l.sets.items ≡ after_all (start es) (take l.step-index l.steps);
  inside : All (IsPut l.shape.rows l.shape.cols) l.sets.items;
  few : length l.sets.items ≤ l.step-index;
}
