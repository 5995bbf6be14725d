use Rattle.std.proofs.Common.{◌≡◌, ◌+◌, ◌*◌, map}
use Rattle.std.specs.List.{range_with_len}
use Rattle.us_format.specs.Lists.{cell}
use Rattle.us_layout.proofs.interleaving.column.Given as goal

-- the column as far as it is written
abbrev pub invariant-loop-x : goal.invariant-loop-x
invariant-loop-x l = l.column.items ≡ map (λ x. cell l.cells (x * l.columns + l.y)) (range_with_len 0 l.x)
