use Rattle.std.proofs.Common.{◌≡◌, map}
use Rattle.std.specs.List.{range_with_len}
use Rattle.us_format.specs.Packs.{column_from}
use Rattle.us_layout.proofs.interleaving.separate.Given as goal

-- the columns so far
abbrev pub invariant-loop-y : goal.invariant-loop-y
invariant-loop-y l = l.separated ≡ map (λ y. column_from l.columns y l.cells) (range_with_len 0 l.y)
