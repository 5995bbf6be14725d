use Rattle.std.proofs.Common.{◌≡◌, [], take, get_or}
use Rattle.us_machine.proofs.starting.cells_of.Given as goal

abbrev pub invariant-loop-x : goal.invariant-loop-x
invariant-loop-x l = l.cells.items ≡ take l.x (get_or l.region.lists l.seg [])
