use Rattle.std.proofs.Common.{◌≡◌, [], get_or}
use Rattle.std.specs.Prelude.{slice_set}
use Rattle.us_machine.proofs.Splices.{splice}
use Rattle.us_machine.proofs.growing.write_list.Given as goal

abbrev pub invariant-loop-x : goal.invariant-loop-x
invariant-loop-x l = record {
  lists : l.region.lists ≡ slice_set l.fn.region.lists l.seg (splice l.x l.cells (get_or l.fn.region.lists l.seg []));
  widths : l.region.widths ≡ l.fn.region.widths;
}
