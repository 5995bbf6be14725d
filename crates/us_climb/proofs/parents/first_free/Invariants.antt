use Rattle.std.proofs.Common.{◌-◌, length}
use Rattle.us_climb.proofs.Tables.{IsPassed}
use Rattle.us_climb.proofs.parents.first_free.Given as goal

abbrev pub invariant-loop-place : goal.invariant-loop-place
invariant-loop-place l = IsPassed l.table l.skips l.from l.place

abbrev pub decreases-loop-place : goal.decreases-loop-place
decreases-loop-place l = length l.table - l.place
