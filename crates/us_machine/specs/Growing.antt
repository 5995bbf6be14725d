-- Lists that stay where a region is made anew with more of them.
use Rattle.std.specs.Prelude.{◌≡◌, ℕ, ◌<◌, ◌≤◌, ℤ, List, [], ◌++◌, length, drop, get_or}
use Rattle.us_raw.specs.declared.region.Segment.{Segment}
use Rattle.us_raw.specs.declared.width.Width.TheVariants.{W8}
use Rattle.us_raw.specs.Plan.{widths_of, zero_lists, no_segment}
use Rattle.us_raw.specs.Region.{Lists}
use Rattle.us_raw.specs.Widths.{HoldsAll}

-- the lists, and those of the rest of the plan, of zeros
abbrev pub grown : List Segment → List (List ℤ) → List (List ℤ)
grown plan lists = lists ++ zero_lists (drop (length lists) plan)

-- the region is one of the first lists of the plan
pub record IsGrown (plan : List Segment) (r : Lists) : Type 0 where
  pub fewer : length r.lists ≤ length plan
  pub long : (i : ℕ) → i < length r.lists → length (get_or r.lists i []) ≡ (get_or plan i no_segment).len
  pub fit : (i : ℕ) → i < length r.lists → HoldsAll (get_or (widths_of plan) i W8) (get_or r.lists i [])
