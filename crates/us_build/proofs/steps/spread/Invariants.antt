use Rattle.std.proofs.Common.{◌≡◌, ◌++◌, map, take, drop}
use Rattle.us_format.specs.declared.Kind.TheVariants.{Full}
use Rattle.us_build.specs.Items.{rows_at, stepped}
use Rattle.us_build.proofs.steps.spread.Given as goal

abbrev pub invariant-loop-item : goal.invariant-loop-item
invariant-loop-item l = l.items ≡ map (stepped Full l.size l.index (rows_at l.index l.initial.items)) (take l.item-index l.initial.items) ++ drop l.item-index l.initial.items
