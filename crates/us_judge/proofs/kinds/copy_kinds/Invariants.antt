use Rattle.std.proofs.Common.{◌≡◌, take}
use Rattle.us_judge.proofs.kinds.copy_kinds.Given as goal

abbrev pub invariant-loop-kinds : goal.invariant-loop-kinds
invariant-loop-kinds l = l.copy ≡ take l.kinds-index l.lists
