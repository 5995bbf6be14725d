use Rattle.std.proofs.Common.{◌≡◌, map, take}
use Rattle.std.specs.List.{All}
use Rattle.us_machine.specs.Packing.{IsDigit, list_of}
use Rattle.us_machine.specs.Sorting.{lists_at}
use Rattle.us_machine.proofs.packing.digits_of.Given as goal

abbrev pub invariant-loop-seg : goal.invariant-loop-seg
invariant-loop-seg l = record {
  lists : map (list_of l.region.lists) l.digits.items ≡ lists_at l.region.lists (take l.seg-index l.segs);
  digits : All (IsDigit l.region.lists l.len) l.digits.items;
}
