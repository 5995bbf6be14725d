use Rattle.std.proofs.Common.{◌≡◌, ◌++◌, drop}
use Rattle.std.specs.List.{flat_map}
use Rattle.us_print.specs.Canon.{comma, column_text}
use Rattle.us_print.proofs.printing.push_more_columns.Given as goal

abbrev pub invariant-loop-column : goal.invariant-loop-column
invariant-loop-column l = l.out.items ++ flat_map (λ c. comma ++ column_text c) (drop l.column-index l.columns) ≡ l.fn.out.items ++ flat_map (λ c. comma ++ column_text c) l.columns
