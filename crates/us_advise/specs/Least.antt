-- The sizes of a matrix in formats, and the least of some sizes.
use Rattle.std.specs.Prelude.{ℕ, ◌+◌, ◌<◌, ◌≤◌, min, List, length, slice_index_or, Bool, ◌&&◌, nat_le, Option}
use Rattle.std.specs.List.{list_all, position}
use Rattle.us_matrix.specs.Map.{Map}
use Rattle.us_format.specs.Buffers.{size}
use Rattle.us_format.specs.Program.{entries_in, shape_in}
use Rattle.us_format.specs.Reading.{limit}
use Rattle.us_decl.specs.Declares.{Declared}
use Rattle.us_judge.specs.Views.{declaration_of}

-- the size of a matrix in a format
unfoldable pub size_in : Map → Declared → ℕ
size_in m d = size (shape_in m) (declaration_of d) (entries_in m)

-- a size as it is told: one above the limit is told as the limit and 1
abbrev pub told : ℕ → ℕ
told n = min n (limit + 1)

-- whether a size is within the limit, and none of these is smaller
abbrev pub is_least : List ℕ → ℕ → Bool
is_least sizes n = nat_le n limit && list_all (nat_le n) sizes

-- the first place of a size that is within the limit and no greater than any other
unfoldable pub least : List ℕ → Option ℕ
least sizes = position (is_least sizes) sizes

-- what this says: the size at a place is within the limit and no greater than any other, and smaller than those before it
pub record IsLeastAt (sizes : List ℕ) (k : ℕ) : Type 0 where
  pub place : k < length sizes
  pub within : slice_index_or sizes k 0 ≤ limit
  pub smallest : (j : ℕ) → j < length sizes → slice_index_or sizes k 0 ≤ slice_index_or sizes j 0
  pub first : (j : ℕ) → j < k → slice_index_or sizes k 0 < slice_index_or sizes j 0

-- and there is no such place where every size is above the limit
abbrev pub AreAbove : List ℕ → Type 0
AreAbove sizes = (j : ℕ) → j < length sizes → limit < slice_index_or sizes j 0
