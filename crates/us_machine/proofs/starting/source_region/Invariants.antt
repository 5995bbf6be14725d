use Rattle.std.proofs.Common.{◌≡◌, [], ◌∷◌, ◌+◌}
use Rattle.us_raw.specs.Plan.{widths_of, zero_lists}
use Rattle.us_machine.proofs.Splices.{splice}
use Rattle.us_machine.proofs.starting.source_region.Given as goal

abbrev pub invariant-loop-k : goal.invariant-loop-k
invariant-loop-k l = record {
  lists : l.region.lists ≡ splice (l.k + 1) ([] ∷ l.source) (zero_lists l.plan);
  widths : l.region.widths ≡ widths_of l.plan;
}
