use Rattle.std.proofs.Common.{◌≡◌, [], map, pos, get_or}
use Rattle.std.specs.Prelude.{slice_set}
use Rattle.us_machine.proofs.Splices.{splice}
use Rattle.us_machine.proofs.sorting.write_places.Given as goal

abbrev pub invariant-loop-x : goal.invariant-loop-x
invariant-loop-x l = record {
  lists : l.region.lists ≡ slice_set l.fn.region.lists l.seg (splice l.x (map pos l.places) (get_or l.fn.region.lists l.seg []));
  widths : l.region.widths ≡ l.fn.region.widths;
}
