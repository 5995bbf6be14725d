use Rattle.std.proofs.Common.{◌≡◌, map, take}
use Rattle.us_layout.proofs.interleaving.interleave.Given as goal

-- the columns so far
abbrev pub invariant-loop-y : goal.invariant-loop-y
invariant-loop-y l = map (λ column. column.now) l.slices.items ≡ take l.y l.columns
