use Rattle.std.proofs.Common.{◌-◌}
use Rattle.us_climb.proofs.Tables.{IsClaiming}
use Rattle.us_climb.proofs.parents.claim.Given as goal

abbrev pub invariant-loop-place : goal.invariant-loop-place
invariant-loop-place l = IsClaiming l.low l.high l.parent l.initial.table l.table l.skips l.place

abbrev pub decreases-loop-place : goal.decreases-loop-place
decreases-loop-place l = l.high - l.place
