use Rattle.std.proofs.Common.{◌≡◌, ◌++◌, drop, map}
use Rattle.us_format.specs.Declaration.{query_of}
use Rattle.us_variables.specs.Counted.{tables_in}
use Rattle.us_parts.specs.Cells.{table_lists}
use Rattle.us_parts.proofs.queries.push_tables.Given as goal

abbrev pub invariant-loop-k : goal.invariant-loop-k
invariant-loop-k l = l.lists ++ table_lists (map query_of (drop l.k l.queries)) (drop l.k (tables_in l.variables)) ≡ l.initial.lists ++ table_lists (map query_of l.queries) (tables_in l.variables)
