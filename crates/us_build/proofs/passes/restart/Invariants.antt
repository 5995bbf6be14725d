use Rattle.std.proofs.Common.{◌≡◌, ◌++◌, map, take, drop}
use Rattle.us_build.proofs.Passing.{restarted}
use Rattle.us_build.proofs.passes.restart.Given as goal

abbrev pub invariant-loop-item : goal.invariant-loop-item
invariant-loop-item l = l.items ≡ map restarted (take l.item-index l.initial.items) ++ drop l.item-index l.initial.items
