use Rattle.std.proofs.Common.{◌≡◌, map, take}
use Rattle.us_format.specs.Matrix.{index_at}
use Rattle.us_format.specs.Program.{plain_entry}
use Rattle.us_query.specs.Lanes.{lane_in}
use Rattle.us_variables.proofs.columns.lanes_of.Given as goal

abbrev pub invariant-loop-t : goal.invariant-loop-t
invariant-loop-t l = l.column.items ≡ map (λ t. lane_in l.table.lanes (index_at l.axis (plain_entry t))) (take l.t-index l.entries)
