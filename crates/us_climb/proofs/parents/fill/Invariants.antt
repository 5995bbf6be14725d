use Rattle.std.proofs.Common.{◌-◌, length}
use Rattle.us_climb.proofs.Tables.{IsMaking}
use Rattle.us_climb.proofs.parents.fill.Given as goal

abbrev pub invariant-loop-p : goal.invariant-loop-p
invariant-loop-p l = IsMaking l.starts (length l.initial.table) (l.p - 1) l.table l.skips
