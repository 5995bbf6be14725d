use Rattle.us_build.proofs.Numbering.{IsNumbered}
use Rattle.us_build.proofs.steps.number.Given as goal

abbrev pub invariant-loop-item : goal.invariant-loop-item
invariant-loop-item l = IsNumbered l.index l.initial.items l.items l.item-index l.count l.parent l.coordinate
