use Rattle.std.proofs.Common.{◌≡◌, map}
use Rattle.std.specs.List.{range_with_len}
use Rattle.us_query.specs.Lanes.{cell_in, numbers_in}
use Rattle.us_query.proofs.lanes.cells.Given as goal

abbrev pub invariant-loop-x : goal.invariant-loop-x
invariant-loop-x l = l.cells.items ≡ map (cell_in (numbers_in l.lanes)) (range_with_len 0 l.x)
