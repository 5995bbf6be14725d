use Rattle.std.proofs.Common.{◌≡◌, drop, pos}
use Rattle.us_variables.specs.Columns.{value_or}
use Rattle.us_variables.proofs.columns.value_in.Given as goal

abbrev pub invariant-loop-column : goal.invariant-loop-column
invariant-loop-column l = value_or (drop l.column-index l.columns) l.var l.entry (pos 0) ≡ value_or l.columns l.var l.entry (pos 0)
