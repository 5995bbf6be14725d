use Rattle.us_variables.specs.Tables.{IsInverse}
use Rattle.us_variables.proofs.tables.inverse.Given as goal

abbrev pub invariant-loop-place : goal.invariant-loop-place
invariant-loop-place l = IsInverse l.order l.place l.places.items
