use Rattle.std.proofs.Common.{◌≡◌, drop}
use Rattle.us_code.specs.Sort.{before}
use Rattle.us_machine.specs.Sorting.{lists_at}
use Rattle.us_machine.proofs.sorting.compare.Given as goal

abbrev pub invariant-loop-seg : goal.invariant-loop-seg
invariant-loop-seg l = before (lists_at l.region.lists (drop l.seg-index l.segs)) l.x l.y ≡ before (lists_at l.region.lists l.segs) l.x l.y
