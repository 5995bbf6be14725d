-- What a plan says of a region, and how its table is made.
use Rattle.std.specs.Prelude.{◌≡◌, ℕ, ◌+◌, ◌*◌, ◌<◌, ◌≤◌, ℤ, pos, List, length, take, drop, map, get_or, replicate}
use Rattle.std.specs.Int.{w64, to_le_bytes}
use Rattle.std.specs.List.{All, sum_by}
use Rattle.us_raw.specs.declared.region.Segment.{Segment}
use Rattle.us_raw.specs.declared.width.Width.{Width}
use Rattle.us_raw.specs.declared.width.Width.TheVariants.{W1}
use Rattle.us_raw.specs.Layout.{word}
use Rattle.us_raw.specs.Lends.{overwritten}
use Rattle.us_raw.specs.Widths.{size_of}

-- few segments, and none of them long
pub record IsPlan (plan : List Segment) : Type 0 where
  pub few : length plan ≤ 131072
  pub short : All (λ s. s.len ≤ 67108865) plan

-- the lists of a new region
abbrev pub zero_lists : List Segment → List (List ℤ)
zero_lists plan = map (λ s. replicate s.len (pos 0)) plan

abbrev pub widths_of : List Segment → List Width
widths_of plan = map (λ s. s.width) plan

-- the bytes of the cells of a segment
unfoldable pub cells_size : Segment → ℕ
cells_size s = s.len * size_of s.width

-- where the cells of the segment stand: behind the table and the cells of those before it
unfoldable pub start_of : List Segment → ℕ → ℕ
start_of plan i = length plan * 24 + sum_by cells_size (take i plan)

-- the bytes of the table and of all cells
unfoldable pub size_of_plan : List Segment → ℕ
size_of_plan plan = length plan * 24 + sum_by cells_size plan

-- the bytes with the word at the place
unfoldable pub put : List ℕ → ℕ → ℕ → List ℕ
put bytes at w = overwritten bytes at 8 (to_le_bytes w64 w)

-- the bytes with the three words of the entry
unfoldable pub entered : List ℕ → ℕ → ℕ → ℕ → ℕ → List ℕ
entered bytes i start len size = put (put (put bytes (i * 24) start) (i * 24 + 8) len) (i * 24 + 16) size

abbrev pub no_segment : Segment
no_segment = record { len = 0; width = W1 }

-- the first i entries are those of the plan, and the cells are zeros
pub record IsTable (plan : List Segment) (bytes : List ℕ) (i : ℕ) : Type 0 where
  pub long : length bytes ≡ size_of_plan plan
  pub starts : (j : ℕ) → j < i → word bytes (j * 24) ≡ start_of plan j
  pub lengths : (j : ℕ) → j < i → word bytes (j * 24 + 8) ≡ (get_or plan j no_segment).len
  pub sizes : (j : ℕ) → j < i → word bytes (j * 24 + 16) ≡ size_of (get_or plan j no_segment).width
  pub clear : (p k : ℕ) → length plan * 24 ≤ p → take k (drop p bytes) ≡ take k (drop p (replicate (size_of_plan plan) 0))
