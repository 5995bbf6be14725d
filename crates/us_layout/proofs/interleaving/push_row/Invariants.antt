use Rattle.std.proofs.Common.{◌≡◌, ◌++◌, map, take}
use Rattle.us_format.specs.Lists.{cell}
use Rattle.us_layout.proofs.interleaving.push_row.Given as goal

-- the row as far as it is written
abbrev pub invariant-loop-column : goal.invariant-loop-column
invariant-loop-column l = l.cells.items ≡ l.initial.cells.items ++ map (λ column. cell column.now l.x) (take l.column-index l.columns)
