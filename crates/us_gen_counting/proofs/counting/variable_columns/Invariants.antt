use Rattle.std.proofs.Common.{◌≡◌, map, length}
use Rattle.us_format.specs.Declaration.{query_of}
use Rattle.us_gen_counting.specs.Phases.{variable_columns}
use Rattle.us_gen_counting.proofs.counting.variable_columns.Given as goal

abbrev pub invariant-loop-var : goal.invariant-loop-var
invariant-loop-var l = (l.vars.items ≡ variable_columns l.columns (map query_of l.queries) l.var l.next) × (length l.vars.items ≡ l.var)
