-- The least of the first sizes, one more after the other.
use Rattle.std.proofs.Common.{◌≡◌, ℕ, ◌+◌, ◌<◌, ◌≤◌, List, length, get_or, refl, arith, below_more}
use Rattle.std.specs.Prelude.{Option, Some, None, MatchOption}
use Rattle.us_format.specs.Reading.{limit}
use Rattle.us_advise.specs.Least.{AreAbove, IsLeastAt}

-- the size at a place is the least of the first i, and the first of these
pub record IsFoundTo (sizes : List ℕ) (i k n : ℕ) : Type 0 where
  pub place : k < i
  pub is : n ≡ get_or sizes k 0
  pub within : n ≤ limit
  pub smallest : (j : ℕ) → j < i → n ≤ get_or sizes j 0
  pub first : (j : ℕ) → j < k → n < get_or sizes j 0

-- all of the first i are above the limit
pub record IsNoneTo (sizes : List ℕ) (i n : ℕ) : Type 0 where
  pub start : n ≡ limit + 1
  pub above : (j : ℕ) → j < i → n ≤ get_or sizes j 0

-- of the first i sizes the first of the least, and its size
abbrev pub IsLeastTo : List ℕ → ℕ → Option ℕ → ℕ → Type 0
IsLeastTo sizes i None n = IsNoneTo sizes i n
IsLeastTo sizes i (Some k) n = IsFoundTo sizes i k n

pub least-start : (sizes : List ℕ) → IsLeastTo sizes 0 None (limit + 1)
least-start sizes = record { start = refl; above = λ j b. absurd (omega (arith, b)) }

-- what holds at each place below i and at i
one_more : (P : ℕ → Type 0) (i : ℕ) → ((j : ℕ) → j < i → P j) → P i → (j : ℕ) → j < i + 1 → P j
one_more P i below at = below_more P i below at

-- a size that is no smaller changes nothing
pub least-kept : (sizes : List ℕ) (i : ℕ) (best : Option ℕ) (n : ℕ) → IsLeastTo sizes i best n → n ≤ get_or sizes i 0 → IsLeastTo sizes (i + 1) best n
least-kept sizes i None n h b = record { start = h.start; above = one_more (λ j. n ≤ get_or sizes j 0) i h.above b }
least-kept sizes i (Some k) n h b =
    record { place = omega (arith, h.place); is = h.is; within = h.within; smallest = one_more (λ j. n ≤ get_or sizes j 0) i h.smallest b; first = h.first }

-- one is taken, which is smaller than all before it
taken : (sizes : List ℕ) (i n : ℕ) → n ≤ limit + 1 → ((j : ℕ) → j < i → n ≤ get_or sizes j 0) → get_or sizes i 0 < n → IsFoundTo sizes (i + 1) i (get_or sizes i 0)
taken sizes i n small all b = record {
  place = omega arith;
  is = refl;
  within = omega (arith, small, b);
  smallest = one_more (λ j. get_or sizes i 0 ≤ get_or sizes j 0) i (λ j l. omega (arith, all j l, b)) (omega arith);
  first = λ j l. omega (arith, all j l, b);
}

pub least-taken : (sizes : List ℕ) (i : ℕ) (best : Option ℕ) (n : ℕ) → IsLeastTo sizes i best n → get_or sizes i 0 < n → IsLeastTo sizes (i + 1) (Some i) (get_or sizes i 0)
least-taken sizes i None n h b = taken sizes i n (omega (arith, h.start)) h.above b
least-taken sizes i (Some k) n h b = taken sizes i n (omega (arith, h.within)) h.smallest b

-- at the end
pub least-end : (sizes : List ℕ) (i : ℕ) (best : Option ℕ) (n : ℕ) → IsLeastTo sizes i best n → i ≡ length sizes → MatchOption best (AreAbove sizes) (IsLeastAt sizes)
least-end sizes i None n h e = λ j b. omega (arith, h.start, h.above j (omega (arith, b, e)))
least-end sizes i (Some k) n h e = record {
  place = omega (arith, h.place, e);
  within = omega (arith, h.is, h.within);
  smallest = λ j b. omega (arith, h.is, h.smallest j (omega (arith, b, e)));
  first = λ j b. omega (arith, h.is, h.first j b);
}
