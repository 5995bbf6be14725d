use Rattle.us_format.specs.Program.{entries_in, shape_in}
use Rattle.us_variables.proofs.Steps.{AreCountedTo}
use Rattle.us_variables.proofs.variables.Variables.new.Given as goal

abbrev pub invariant-loop-query : goal.invariant-loop-query
invariant-loop-query l = AreCountedTo (entries_in l.matrix) (shape_in l.matrix) l.queries l.query-index l.columns.items l.extents.items l.tables.items
