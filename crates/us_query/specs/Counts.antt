-- How often numbers come in a list.
use Rattle.std.specs.Prelude.{◌≡◌, ◌<◌, ℕ, ℤ, List, [], ◌∷◌, ◌++◌, map, length, int_lt, slice_index_or}
use Rattle.std.specs.List.{count_by}
use Rattle.std.specs.Ordering.{int_eq}

-- how often a number comes in the list
abbrev pub times : List ℤ → ℤ → ℕ
times xs q = count_by (λ y. int_eq y q) xs

-- how many numbers of the list are below a number
abbrev pub below : List ℤ → ℤ → ℕ
below xs q = count_by (λ y. int_lt y q) xs

-- for each number how often it comes in the list
abbrev pub totals : List ℤ → List ℕ
totals xs = map (times xs) xs

-- for each number how often it comes in the list before it, where `before` stand in front of the list
abbrev pub ranks_after : List ℤ → List ℤ → List ℕ
ranks_after before [] = []
ranks_after before (x ∷ xs) = times before x ∷ ranks_after (before ++ x ∷ []) xs

-- for each number how often it comes in the list before it
abbrev pub ranks : List ℤ → List ℕ
ranks xs = ranks_after [] xs

-- how often each number comes in a part of the list, at the place where it first stands among all numbers in order
pub record AreCounts (xs part : List ℤ) (counts : List ℕ) : Type 0 where
  pub long : length counts ≡ length xs
  pub each : (q : ℤ) → 0 < times xs q → slice_index_or counts (below xs q) 0 ≡ times part q
