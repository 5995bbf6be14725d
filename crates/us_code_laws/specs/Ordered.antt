-- What an `order` writes.
use Rattle.std.specs.Prelude.{◌≡◌, ℕ, ◌<◌, Bool, true, List, length, get_or, count_by, ℤ}
use Rattle.std.specs.List.{range_with_len}
use Rattle.us_code.specs.Sort.{before, ordered}

-- the numbers below n, each once, in ascending order of their keys, then of themselves; the one at place q has exactly q before it
pub record OrderedByKeys : Type 0 where
  pub long : (keys : List (List ℤ)) (n : ℕ) → length (ordered keys n) ≡ n
  pub in_range : (keys : List (List ℤ)) (n q : ℕ) → q < n → get_or (ordered keys n) q 0 < n
  pub all : (keys : List (List ℤ)) (n : ℕ) (p : ℕ → Bool) → count_by p (ordered keys n) ≡ count_by p (range_with_len 0 n)
  pub ascending : (keys : List (List ℤ)) (n q r : ℕ) → q < r → r < n → before keys (get_or (ordered keys n) q 0) (get_or (ordered keys n) r 0) ≡ true
  pub place : (keys : List (List ℤ)) (n q : ℕ) → q < n → count_by (λ y. before keys y (get_or (ordered keys n) q 0)) (range_with_len 0 n) ≡ q
