use Rattle.std.proofs.Common.{◌≡◌, map, take, get_or}
use Rattle.us_format.specs.Matrix.{index_at}
use Rattle.us_format.specs.Program.{plain_entry}
use Rattle.us_variables.proofs.columns.numbers_of.Given as goal

abbrev pub invariant-loop-t : goal.invariant-loop-t
invariant-loop-t l = l.column.items ≡ map (λ t. get_or l.numbers (index_at l.axis (plain_entry t)) 0) (take l.t-index l.entries)
