-- Which parts, matrices and buffers are compared list by list.
use Rattle.std.specs.Prelude.{ℕ, ℤ, ◌+◌, ◌≤◌, ◌≡◌, List, [], ◌∷◌, length, drop, not, Bool, None, All}
use Rattle.std.specs.List.{list_any, sum, sum_by}
use Rattle.us_matrix.specs.Map.{Map}
use Rattle.us_format.specs.Declaration.{Part}
use Rattle.us_format.specs.Kinds.{Level, levels_of}
use Rattle.us_format.specs.Lists.{first_of, when}
use Rattle.us_format.specs.Matrix.{Entry, Shape}
use Rattle.us_format.specs.Program.{entries_in, shape_in}
use Rattle.us_format.specs.Queries.{extents_of}
use Rattle.us_format.specs.Reading.{buffer_count, counts_in, extent_count, limit, part_counts_in, part_tests, table_count}
use Rattle.us_judge.specs.Acceptance.{part_rules}
use Rattle.us_judge.specs.Short.{IsShort}
use Rattle.us_build.specs.Ways.{is_full}
use Rattle.us_parts.specs.Storable.{IsStorable}

-- whether some level is full
abbrev pub has_full : List Level → Bool
has_full ls = list_any (λ l. is_full l.kind) ls

-- an accepted part, a matrix of few entries, and few buffers that begin with those of the part and fit it
pub record IsComparable (s : Shape) (p : Part) (m : List Entry) (bufs : List (List ℤ)) : Type 0 where
  pub kept : All (λ r. r.1 p ≡ None) part_rules
  pub storable : IsStorable p
  pub short : IsShort p
  pub fitting : first_of (λ t. when (not t.1) t.0) (part_tests s p bufs) ≡ None
  pub cells : sum_by length bufs ≤ limit
  pub counts : sum (part_counts_in s p bufs) ≤ limit
  pub few : length m ≤ limit

-- parts on the matrices of their entries; the buffers of a part follow those of the parts before
abbrev pub AreComparable : List Part → List Map → List (List ℤ) → Type 0
AreComparable [] ms bufs = Unit {0}
AreComparable (p ∷ ps) [] bufs = Unit {0}
AreComparable (p ∷ ps) (m ∷ ms) bufs = IsComparable (shape_in m) p (entries_in m) bufs × AreComparable ps ms (drop (buffer_count p) bufs)

-- the buffers of the levels of such a part stand from the number k on, behind those of its queries; with the true extents there are few positions
pub record IsStoredFrom (k : ℕ) (s : Shape) (p : Part) (m : List Entry) (bufs : List (List ℤ)) : Type 0 where
  pub first : ℕ
  pub behind : k ≡ first + (extent_count p + table_count p)
  pub kept : All (λ r. r.1 p ≡ None) part_rules
  pub storable : IsStorable p
  pub counts : sum (counts_in p (drop first bufs) 0 (levels_of s (extents_of m s p) p) 1) ≤ limit
  pub few : length m ≤ limit
