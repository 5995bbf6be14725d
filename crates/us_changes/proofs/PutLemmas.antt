-- Sets put into entries in row-major order, one after another.
use Rattle.std.proofs.Common.{◌≡◌, ◌≢◌, ℕ, zero, suc, ◌+◌, ◌<◌, ◌≤◌, ◌==◌, nat_lt, true, false, cond, List, [], ◌∷◌, ◌++◌, take, drop, get_or, ℤ, pos, refl, sym, ap, subst, ◌∙◌, inl, inr, arith}
use Rattle.std.specs.Ordering.{int_eq}
use Rattle.std.proofs.lemmas.Bool.{cases_lt, cases_Bool, false_from_ne_true, false≢true}
use Rattle.std.proofs.lemmas.Bool.Decides.{nat_tests, Decides-int_eq}
use Rattle.us_matrix.specs.declared.matrix.Triple.{Triple}
use Rattle.us_matrix.specs.Map.{IsRisingFrom, AreEntries, place}
use Rattle.us_changes.specs.Edits.{in_front, changed}
use Rattle.us_changes.specs.Keeping.{IsPut, put_all}
use Rattle.us_changes.specs.Merging.{AreFrom}

-- ---- cases

pub three : (P : Type 0) (a b : ℕ) → (a < b → P) → (a ≡ b → P) → (b < a → P) → P
three P a b below same above =
    elim (cases_lt a b) [
      | inl lt ↦ below lt
      | inr ge ↦ elim (cases_lt b a) [
        | inl gt ↦ above gt
        | inr le ↦ same (omega arith)
      ]
    ]

pub int_same : (x y : ℤ) → x ≡ y → int_eq x y ≡ true
int_same x y e = (Decides-int_eq x y).1 e

pub int_other : (x y : ℤ) → x ≢ y → int_eq x y ≡ false
int_other x y h = false_from_ne_true (int_eq x y) (λ e. h ((Decides-int_eq x y).0 e))

pub two : (P : Type 0) (x y : ℤ) → (x ≡ y → P) → (x ≢ y → P) → P
two P x y same other =
    elim (cases_Bool (int_eq x y)) [
      | inl equal ↦ same ((Decides-int_eq x y).0 equal)
      | inr unequal ↦ other (λ e. false≢true (sym unequal ∙ int_same x y e))
    ]

pub lt_true : (a b : ℕ) → a < b → nat_lt a b ≡ true
lt_true a b h = grind (arith, nat_tests)

pub lt_false : (a b : ℕ) → b ≤ a → nat_lt a b ≡ false
lt_false a b h = grind (arith, nat_tests)

pub eq_true : (a b : ℕ) → a ≡ b → (a == b) ≡ true
eq_true a b h = grind (arith, nat_tests)

pub eq_false : (a b : ℕ) → b < a → (a == b) ≡ false
eq_false a b h = grind (arith, nat_tests)

pub eq_false_below : (a b : ℕ) → a < b → (a == b) ≡ false
eq_false_below a b h = grind (arith, nat_tests)

-- ---- one set

pub front_none : (t : Triple) (es : List Triple) → t.v ≡ pos 0 → in_front t es ≡ es
front_none t es e = ap (λ b. cond b es (t ∷ es)) (int_same t.v (pos 0) e)

pub front_some : (t : Triple) (es : List Triple) → t.v ≢ pos 0 → in_front t es ≡ t ∷ es
front_some t es h = ap (λ b. cond b es (t ∷ es)) (int_other t.v (pos 0) h)

pub changed_before : (t e : Triple) (es : List Triple) → place t < place e → changed t (e ∷ es) ≡ in_front t (e ∷ es)
changed_before t e es h = ap (λ b. cond b (in_front t (e ∷ es)) (cond (place t == place e) (in_front t es) (e ∷ changed t es))) (lt_true (place t) (place e) h)

pub changed_at : (t e : Triple) (es : List Triple) → place t ≡ place e → changed t (e ∷ es) ≡ in_front t es
changed_at t e es h =
    ap (λ b. cond b (in_front t (e ∷ es)) (cond (place t == place e) (in_front t es) (e ∷ changed t es))) (lt_false (place t) (place e) (omega arith))
    ∙ ap (λ b. cond b (in_front t es) (e ∷ changed t es)) (eq_true (place t) (place e) h)

pub changed_behind : (t e : Triple) (es : List Triple) → place e < place t → changed t (e ∷ es) ≡ e ∷ changed t es
changed_behind t e es h =
    ap (λ b. cond b (in_front t (e ∷ es)) (cond (place t == place e) (in_front t es) (e ∷ changed t es))) (lt_false (place t) (place e) (omega arith))
    ∙ ap (λ b. cond b (in_front t es) (e ∷ changed t es)) (eq_false (place t) (place e) h)

-- ---- order

pub rising_lower : (high low : ℕ) (es : List Triple) → low ≤ high → IsRisingFrom high es → IsRisingFrom low es
rising_lower high low [] le h = tt
rising_lower high low (e ∷ es) le h = (omega (arith, h.0), h.1)

pub front_rising : (low : ℕ) (t : Triple) (es : List Triple) → low ≤ place t → IsRisingFrom (place t + 1) es → IsRisingFrom low (in_front t es)
front_rising low t es le h =
    two (IsRisingFrom low (in_front t es)) t.v (pos 0)
    (λ e. subst (IsRisingFrom low) (sym (front_none t es e)) (rising_lower (place t + 1) low es (omega arith) h))
    (λ n. subst (IsRisingFrom low) (sym (front_some t es n)) (le, h))

pub changed_rising : (low : ℕ) (t : Triple) (es : List Triple) → low ≤ place t → IsRisingFrom low es → IsRisingFrom low (changed t es)
changed_rising low t [] le h = front_rising low t [] le tt
changed_rising low t (e ∷ es) le h =
    three (IsRisingFrom low (changed t (e ∷ es))) (place t) (place e)
    (λ before. subst (IsRisingFrom low) (sym (changed_before t e es before)) (front_rising low t (e ∷ es) le (omega arith, h.1)))
    (λ at. subst (IsRisingFrom low) (sym (changed_at t e es at)) (front_rising low t es le (subst (λ n. IsRisingFrom (n + 1) es) (sym at) h.1)))
    (λ behind. subst (IsRisingFrom low) (sym (changed_behind t e es behind)) (h.0, changed_rising (place e + 1) t es (omega arith) h.1))

pub front_entries : (rows cols : ℕ) (t : Triple) (es : List Triple) → IsPut rows cols t → AreEntries rows cols es → AreEntries rows cols (in_front t es)
front_entries rows cols t es p h =
    two (AreEntries rows cols (in_front t es)) t.v (pos 0)
    (λ e. subst (AreEntries rows cols) (sym (front_none t es e)) h)
    (λ n. subst (AreEntries rows cols) (sym (front_some t es n)) (record { row = p.row; col = p.col; value = n; fits = p.fits }, h))

pub changed_entries : (rows cols : ℕ) (t : Triple) (es : List Triple) → IsPut rows cols t → AreEntries rows cols es → AreEntries rows cols (changed t es)
changed_entries rows cols t [] p h = front_entries rows cols t [] p tt
changed_entries rows cols t (e ∷ es) p h =
    three (AreEntries rows cols (changed t (e ∷ es))) (place t) (place e)
    (λ before. subst (AreEntries rows cols) (sym (changed_before t e es before)) (front_entries rows cols t (e ∷ es) p h))
    (λ at. subst (AreEntries rows cols) (sym (changed_at t e es at)) (front_entries rows cols t es p h.1))
    (λ behind. subst (AreEntries rows cols) (sym (changed_behind t e es behind)) (h.0, changed_entries rows cols t es p h.1))

pub from_lower : (high low : ℕ) (es : List Triple) → low ≤ high → AreFrom high es → AreFrom low es
from_lower high low [] le h = tt
from_lower high low (e ∷ es) le h = (omega (arith, h.0), from_lower high low es le h.1)

pub from_rising : (low : ℕ) (es : List Triple) → IsRisingFrom low es → AreFrom low es
from_rising low [] h = tt
from_rising low (e ∷ es) h = (h.0, from_lower (place e + 1) low es (omega (arith, h.0)) (from_rising (place e + 1) es h.1))

front_from : (low : ℕ) (t : Triple) (es : List Triple) → low ≤ place t → AreFrom low es → AreFrom low (in_front t es)
front_from low t es le h =
    two (AreFrom low (in_front t es)) t.v (pos 0) (λ e. subst (AreFrom low) (sym (front_none t es e)) h) (λ n. subst (AreFrom low) (sym (front_some t es n)) (le, h))

changed_from : (low : ℕ) (t : Triple) (es : List Triple) → low ≤ place t → AreFrom low es → AreFrom low (changed t es)
changed_from low t [] le h = front_from low t [] le tt
changed_from low t (e ∷ es) le h =
    three (AreFrom low (changed t (e ∷ es))) (place t) (place e)
    (λ before. subst (AreFrom low) (sym (changed_before t e es before)) (front_from low t (e ∷ es) le h))
    (λ at. subst (AreFrom low) (sym (changed_at t e es at)) (front_from low t es le h.1))
    (λ behind. subst (AreFrom low) (sym (changed_behind t e es behind)) (h.0, changed_from low t es le h.1))

-- ---- sets one after another

pub put_from : (low : ℕ) (ts es : List Triple) → AreFrom low ts → AreFrom low es → AreFrom low (put_all ts es)
put_from low [] es h r = r
put_from low (t ∷ ts) es h r = put_from low ts (changed t es) h.1 (changed_from low t es h.0 r)

-- an entry in front of all sets stays there
pub put_behind : (ts : List Triple) (e : Triple) (es : List Triple) → AreFrom (place e + 1) ts → put_all ts (e ∷ es) ≡ e ∷ put_all ts es
put_behind [] e es h = refl
put_behind (t ∷ ts) e es h = ap (put_all ts) (changed_behind t e es (omega (arith, h.0))) ∙ put_behind ts e (changed t es) h.1

pub put_front : (ts : List Triple) (t : Triple) (es : List Triple) → AreFrom (place t + 1) ts → put_all ts (in_front t es) ≡ in_front t (put_all ts es)
put_front ts t es h =
    two (put_all ts (in_front t es) ≡ in_front t (put_all ts es)) t.v (pos 0)
    (λ e. ap (put_all ts) (front_none t es e) ∙ sym (front_none t (put_all ts es) e))
    (λ n. ap (put_all ts) (front_some t es n) ∙ put_behind ts t es h ∙ sym (front_some t (put_all ts es) n))

pub changed_first : (t : Triple) (es : List Triple) → IsRisingFrom (place t + 1) es → changed t es ≡ in_front t es
changed_first t [] h = refl
changed_first t (e ∷ es) h = changed_before t e es (omega (arith, h.0))

-- a set that is followed by one at its coordinate does nothing
front_twice : (s t : Triple) (es : List Triple) → place t ≡ place s → IsRisingFrom (place s + 1) es → changed t (in_front s es) ≡ in_front t es
front_twice s t es at h =
    two (changed t (in_front s es) ≡ in_front t es) s.v (pos 0)
    (λ e. ap (changed t) (front_none s es e) ∙ changed_first t es (subst (λ n. IsRisingFrom (n + 1) es) (sym at) h))
    (λ n. ap (changed t) (front_some s es n) ∙ changed_at t s es at)

pub changed_twice : (s t : Triple) (low : ℕ) (es : List Triple) → place t ≡ place s → IsRisingFrom low es → changed t (changed s es) ≡ changed t es
changed_twice s t low [] at h = front_twice s t [] at tt
changed_twice s t low (e ∷ es) at h =
    three (changed t (changed s (e ∷ es)) ≡ changed t (e ∷ es)) (place s) (place e)
    (λ before.
    ap (changed t) (changed_before s e es before) ∙ front_twice s t (e ∷ es) at (omega arith, h.1) ∙ sym (changed_before t e es (omega arith)))
    (λ here.
    ap (changed t) (changed_at s e es here) ∙ front_twice s t es at (subst (λ n. IsRisingFrom (n + 1) es) (sym here) h.1) ∙ sym (changed_at t e es (at ∙ here)))
    (λ behind.
    ap (changed t) (changed_behind s e es behind) ∙ changed_behind t e (changed s es) (omega arith)
    ∙ ap (λ l. e ∷ l) (changed_twice s t (place e + 1) es at h.1) ∙ sym (changed_behind t e es (omega arith)))

-- entries below all sets stay in front
pub put_take : (n : ℕ) (es ts : List Triple) (low : ℕ) → ((k : ℕ) (d : Triple) → k < n → place (get_or es k d) < low) → AreFrom low ts
    → put_all ts es ≡ take n es ++ put_all ts (drop n es)
put_take zero es ts low below h = refl
put_take (suc n) [] ts low below h = refl
put_take (suc n) (e ∷ es) ts low below h =
    put_behind ts e es (from_lower low (place e + 1) ts (omega (arith, below 0 e (omega arith))) h)
    ∙ ap (λ l. e ∷ l) (put_take n es ts low (λ k d lt. below (suc k) d (omega arith)) h)
