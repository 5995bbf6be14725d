use Rattle.std.proofs.Common.{◌≡◌, map, take}
use Rattle.us_changes.specs.Edits.{as_step}
use Rattle.us_changes.proofs.changing.script_of.Given as goal

abbrev pub invariant-loop-set : goal.invariant-loop-set
invariant-loop-set l = l.script ≡ map as_step (take l.set-index l.sets)
