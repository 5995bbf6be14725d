use Rattle.std.proofs.Common.{◌≡◌}
use Rattle.us_raw.specs.Plan.{widths_of, zero_lists}
use Rattle.us_machine.proofs.Splices.{splice}
use Rattle.us_machine.proofs.growing.grow.Given as goal

abbrev pub invariant-loop-seg : goal.invariant-loop-seg
invariant-loop-seg l = record {
  lists : l.region.lists ≡ splice l.seg l.old.lists (zero_lists l.plan);
  widths : l.region.widths ≡ widths_of l.plan;
}
