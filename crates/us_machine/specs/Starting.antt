-- What a run begins with.
use Rattle.std.specs.Prelude.{◌≡◌, ℕ, ◌+◌, ◌<◌, ◌≤◌, ℤ, List, [], length, get_or}
use Rattle.us_raw.specs.declared.region.Segment.{Segment}
use Rattle.us_raw.specs.Plan.{no_segment}
use Rattle.us_raw.specs.Widths.{HoldsAll}

-- few sources, each of them short
pub record AreSources (sources : List (List ℤ)) : Type 0 where
  pub few : length sources ≤ 4096
  pub short : (k : ℕ) → length (get_or sources k []) ≤ 67108864

-- one list without cells, then the first n sources
pub record IsSourcePlan (sources : List (List ℤ)) (n : ℕ) (plan : List Segment) : Type 0 where
  pub long : length plan ≡ n + 1
  pub none : (get_or plan 0 no_segment).len ≡ 0
  pub lens : (k : ℕ) → k < n → (get_or plan (k + 1) no_segment).len ≡ length (get_or sources k [])
  pub fit : (k : ℕ) → k < n → HoldsAll (get_or plan (k + 1) no_segment).width (get_or sources k [])
