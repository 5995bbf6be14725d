use Rattle.std.proofs.Common.{◌≡◌, ◌++◌, map, take, drop}
use Rattle.us_build.specs.Items.{stayed}
use Rattle.us_build.proofs.steps.stay.Given as goal

abbrev pub invariant-loop-item : goal.invariant-loop-item
invariant-loop-item l = l.items ≡ map stayed (take l.item-index l.initial.items) ++ drop l.item-index l.initial.items
