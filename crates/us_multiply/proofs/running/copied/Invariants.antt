use Rattle.std.proofs.Common.{◌≡◌, take}
use Rattle.us_multiply.proofs.running.copied.Given as goal

abbrev pub invariant-loop-b : goal.invariant-loop-b
invariant-loop-b l = l.copies ≡ take l.b l.lists
