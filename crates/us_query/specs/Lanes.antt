-- The rows or the columns of a matrix in lanes.
use Rattle.std.proofs.Common.{Vec, Global}
use Rattle.std.specs.Prelude.{◌≡◌, ℕ, ◌/◌, ◌%◌, ◌<◌, ◌≤◌, List, [], ◌∷◌, ◌++◌, map, length, nat_eq, slice_get, slice_index_or, slice_set}
use Rattle.std.specs.List.{fold, position_or_len, range_with_len}
use Rattle.us_expr.specs.declared.queries.Axis.{Axis}
use Rattle.us_format.specs.Lists.{among, greatest, nth}
use Rattle.us_format.specs.Matrix.{Entry, Shape, indices}
use Rattle.us_format.specs.Queries.{empty_lanes, lanes_of, least_load, plus_one, put_in, weight}
use Rattle.us_query.specs.declared.lanes.Place.{Place}

-- the indices of each lane, and how many indices there are
pub record Lanes : Type 0 where
  pub lanes : List (List ℕ)
  pub count : ℕ

-- the rows or the columns of a matrix in n lanes
abbrev pub spread : List Entry → Shape → Axis → ℕ → Lanes
spread m s axis n = record { lanes = lanes_of m s axis n; count = indices axis s }

-- the lane of an index
abbrev pub lane_in : List (List ℕ) → ℕ → ℕ
lane_in lanes a = position_or_len (among a) lanes

-- its place in the lane
abbrev pub slot_in : List (List ℕ) → ℕ → ℕ
slot_in lanes a = position_or_len (nat_eq a) (nth lanes (lane_in lanes a))

-- the greatest number of indices in a lane
abbrev pub extent_in : List (List ℕ) → ℕ
extent_in lanes = greatest (map length lanes)

-- the index at the lane x / extent and the slot x % extent, plus 1; 0 where there is none
abbrev pub cell_in : List (List ℕ) → ℕ → ℕ
cell_in lanes x = plus_one (slice_get (nth lanes (x / extent_in lanes)) (x % extent_in lanes))

-- ---- lanes in the making

-- the lists of numbers of the program
abbrev pub numbers_in : List (Vec ℕ Global) → List (List ℕ)
numbers_in lists = map (λ v. v.items) lists

-- one index more at the end of the lane p
abbrev pub with_index : List (List ℕ) → ℕ → ℕ → List (List ℕ)
with_index lanes p a = slice_set lanes p (nth lanes p ++ a ∷ [])

-- the lanes of the first k indices
abbrev pub lanes_after : List Entry → Axis → ℕ → ℕ → List (List ℕ)
lanes_after m axis n k = fold (λ lanes a. put_in m axis (least_load m axis lanes) a lanes) (empty_lanes n) (range_with_len 0 k)

-- the numbers are the weights of the indices from 0 on
abbrev pub AreWeights : List Entry → Axis → List ℕ → Type 0
AreWeights m axis ws = ws ≡ map (weight m axis) (range_with_len 0 (length ws))

-- the lanes of every matrix with these weights
abbrev pub IsTableOf : List ℕ → ℕ → Lanes → Type 0
IsTableOf ws n t = (m : List Entry) (axis : Axis) → AreWeights m axis ws → t ≡ record { lanes = lanes_after m axis n (length ws); count = length ws }

-- the place of an index
abbrev pub place_of : List Place → ℕ → Place
place_of places a = slice_index_or places a (record { lane = 0; slot = 0 })

-- the index a stands at a place
abbrev pub StandsAt : List (List ℕ) → Place → ℕ → Type 0
StandsAt lanes p a = (p.lane < length lanes) × (p.slot < length (nth lanes p.lane)) × (slice_index_or (nth lanes p.lane) p.slot 0 ≡ a)

-- the number at slot s of the lane l is an index, whose place it is
abbrev pub IsPlaceOf : List Place → ℕ → ℕ → List ℕ → Type 0
IsPlaceOf places l s lane =
    s < length lane → (slice_index_or lane s 0 < length places) × (place_of places (slice_index_or lane s 0) ≡ record { lane = l; slot = s })

-- each index below the number of places stands in one lane, once, at its place
pub record IsPlaced (lanes : List (List ℕ)) (places : List Place) : Type 0 where
  pub few : length places ≤ 67108864
  pub short : (l : ℕ) → length (nth lanes l) ≤ length places
  pub stands : (a : ℕ) → a < length places → StandsAt lanes (place_of places a) a
  pub back : (l s : ℕ) → l < length lanes → IsPlaceOf places l s (nth lanes l)
