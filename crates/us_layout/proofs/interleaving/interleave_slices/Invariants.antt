use Rattle.std.proofs.Common.{◌≡◌, map}
use Rattle.us_layout.proofs.Interleaved.{rows_up_to}
use Rattle.us_layout.proofs.interleaving.interleave_slices.Given as goal

-- the rows so far
abbrev pub invariant-loop-x : goal.invariant-loop-x
invariant-loop-x l = l.cells.items ≡ rows_up_to (map (λ column. column.now) l.columns) l.x
