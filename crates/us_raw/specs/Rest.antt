-- What stands around the bytes that are lent.
use Rattle.std.specs.Prelude.{◌≡◌, ℕ, ◌*◌, ◌<◌, ◌^◌, ℤ, List, [], ◌++◌, length, slice_set, replicate}
use Rattle.us_raw.specs.Layout.{tabulate}
use Rattle.us_raw.specs.Region.{IsLaid, start_at, length_at, size_at, row}

module _ (before : List ℕ) (skipped : ℕ) (after : List ℕ) where
  -- the bytes with zeros where some are lent
  abbrev pub filled : List ℕ
  filled = before ++ (replicate skipped 0 ++ after)

  -- the lists under their own numbers, the lent one empty
  abbrev pub others_of : ℕ → ℕ → List (List ℤ)
  others_of n lent = slice_set (tabulate n (row filled)) lent []

  pub record IsAround (n lent : ℕ) : Type 0 where
    pub laid : IsLaid filled n
    pub listed : lent < n
    pub begins : start_at filled lent ≡ length before
    pub wide : length_at filled lent * size_at filled lent ≡ skipped
    pub small : length filled < 2 ^ 64
