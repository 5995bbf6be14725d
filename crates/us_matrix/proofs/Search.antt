-- Entries in row-major order, searched for a coordinate.
use Rattle.std.proofs.Common.{◌≡◌, ◌≢◌, ℕ, zero, suc, ◌+◌, ◌*◌, ◌^◌, ◌<◌, ◌≤◌, false, cond, List, [], ◌∷◌, length, drop, get_or, ◌⊎◌, pos, refl, sym, ap, ◌∙◌, inl, inr, arith}
use Rattle.std.specs.List.{All}
use Rattle.std.specs.List.Sorted.{IsNonDecreasingBy}
use Rattle.std.proofs.lemmas.Bool.{cases_Bool}
use Rattle.std.proofs.lemmas.Bool.Decides.{nat_tests}
use Rattle.us_matrix.specs.declared.matrix.Triple.{Triple}
use Rattle.us_matrix.specs.Map.{IsRisingFrom, AreEntries, place, value_at}
use Rattle.us_matrix.specs.Sums.{is_at}
use Rattle.us_matrix.proofs.OneMatrixLemmas.{below_none}

-- each entry stands at the low end or behind it
rising_above : (low : ℕ) (ts : List Triple) → IsRisingFrom low ts → (k : ℕ) (d : Triple) → k < length ts → low ≤ place (get_or ts k d)
rising_above low [] h k d lt = absurd (omega arith)
rising_above low (t ∷ ts) h zero d lt = h.0
rising_above low (t ∷ ts) h (suc k) d lt = let above = rising_above (place t + 1) ts h.1 k d (omega arith) in omega (arith, h.0, above)

pub rising_by : (low : ℕ) (ts : List Triple) → IsRisingFrom low ts → IsNonDecreasingBy place ts
rising_by low [] h i j d le lt = absurd (omega arith)
rising_by low (t ∷ ts) h zero zero d le lt = omega arith
rising_by low (t ∷ ts) h zero (suc j) d le lt = let above = rising_above (place t + 1) ts h.1 j d (omega arith) in omega (arith, above)
rising_by low (t ∷ ts) h (suc i) zero d le lt = absurd (omega arith)
rising_by low (t ∷ ts) h (suc i) (suc j) d le lt = rising_by (place t + 1) ts h.1 i j d (omega arith) (omega arith)

-- the entries from k on, all at a place or behind it, rise from there
pub behind_rising : (low w k : ℕ) (ts : List Triple) → IsRisingFrom low ts → ((n : ℕ) (d : Triple) → k ≤ n → n < length ts → w ≤ place (get_or ts n d)) → IsRisingFrom w (drop k ts)
behind_rising low w zero [] h above = tt
behind_rising low w zero (t ∷ ts) h above = (above 0 t (omega arith) (omega arith), h.1)
behind_rising low w (suc k) [] h above = tt
behind_rising low w (suc k) (t ∷ ts) h above = behind_rising (place t + 1) w k ts h.1 (λ n d le lt. above (suc n) d (omega arith) (omega arith))

other_place : (i j : ℕ) (t : Triple) → place t < 2147483648 * i + j → is_at i j t ≡ false
other_place i j t lt =
    elim (cases_Bool (is_at i j t)) [
      | inl here ↦ absurd (grind (arith, nat_tests))
      | inr elsewhere ↦ elsewhere
    ]

-- entries at lower places have no value here
pub skipped : (i j k : ℕ) (ts : List Triple) → ((n : ℕ) (d : Triple) → n < k → place (get_or ts n d) < 2147483648 * i + j) → value_at (drop k ts) i j ≡ value_at ts i j
skipped i j zero ts lower = refl
skipped i j (suc k) [] lower = refl
skipped i j (suc k) (t ∷ ts) lower =
    skipped i j k ts (λ n d lt. lower (suc n) d (omega arith)) ∙ sym (ap (λ b. cond b t.v (value_at ts i j)) (other_place i j t (lower 0 t (omega arith))))

not_at : (i j : ℕ) (t : Triple) → (t.i ≢ i) ⊎ (t.j ≢ j) → is_at i j t ≡ false
not_at i j t (inl row) = grind (arith, nat_tests)
not_at i j t (inr col) = grind (arith, nat_tests)

-- entries from this place on, of which the first stands elsewhere
pub not_first : (i j : ℕ) (ts : List Triple) (d : Triple) → IsRisingFrom (2147483648 * i + j) ts → 0 < length ts → ((get_or ts 0 d).i ≢ i) ⊎ ((get_or ts 0 d).j ≢ j) → pos 0 ≡ value_at ts i j
not_first i j [] d h some other = absurd (omega arith)
not_first i j (t ∷ ts) d h some other =
    sym (ap (λ b. cond b t.v (value_at ts i j)) (not_at i j t other) ∙ below_none (place t + 1) i j ts h.1 (omega (arith, h.0)))

-- no entry stands in a column outside the shape
pub outside_cols : (rows cols i j : ℕ) (ts : List Triple) → AreEntries rows cols ts → cols ≤ j → pos 0 ≡ value_at ts i j
outside_cols rows cols i j [] h out = refl
outside_cols rows cols i j (t ∷ ts) h out =
    let col : t.j ≢ j = omega (arith, h.0.col) in
    outside_cols rows cols i j ts h.1 out ∙ sym (ap (λ b. cond b t.v (value_at ts i j)) (not_at i j t (inr col)))

pub narrow : (rows cols : ℕ) (ts : List Triple) → AreEntries rows cols ts → cols < 2 ^ 31 → All (λ t. t.j < 2 ^ 31) ts
narrow rows cols [] h side k d lt = absurd (omega arith)
narrow rows cols (t ∷ ts) h side zero d lt = omega (arith, h.0.col)
narrow rows cols (t ∷ ts) h side (suc k) d lt = narrow rows cols ts h.1 side k d (omega arith)
