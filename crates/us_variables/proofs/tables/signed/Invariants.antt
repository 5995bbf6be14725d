use Rattle.std.proofs.Common.{◌≡◌, map, pos, take}
use Rattle.us_variables.proofs.tables.signed.Given as goal

abbrev pub invariant-loop-n : goal.invariant-loop-n
invariant-loop-n l = l.cells.items ≡ map pos (take l.n-index l.numbers)
