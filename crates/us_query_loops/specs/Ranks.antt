-- Indices by the numbers of their entries, counted downwards.
use Rattle.std.specs.Prelude.{ℕ, zero, suc, ℤ, pos, negsuc, List, [], ◌∷◌, map}
use Rattle.std.specs.List.{range_with_len}
use Rattle.us_code.specs.Sort.{ordered}
use Rattle.us_expr.specs.declared.queries.Axis.{Axis}
use Rattle.us_format.specs.Matrix.{Entry, Shape, indices}
use Rattle.us_format.specs.Queries.{weight}

-- a count that goes down from 0
abbrev pub downwards : ℕ → ℤ
downwards zero = pos 0
downwards (suc n) = negsuc n

-- for each index how many entries it has, counted downwards
abbrev pub weight_column : List Entry → Shape → Axis → List ℤ
weight_column m s axis = map (λ a. downwards (weight m axis a)) (range_with_len 0 (indices axis s))

-- the indices in the order of these counts
abbrev pub by_weight : List Entry → Shape → Axis → List ℕ
by_weight m s axis = ordered (weight_column m s axis ∷ []) (indices axis s)
