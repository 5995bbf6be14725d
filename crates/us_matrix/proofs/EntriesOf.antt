-- What triples make, one after the other, is a matrix with the sums of the values.
use Rattle.std.proofs.Common.{◌≡◌, ℕ, zero, suc, ◌+◌, ◌*◌, ◌%◌, ◌^◌, ◌<◌, ◌≤◌, ◌==◌, ◌&&◌, nat_lt, Bool, true, false, cond, List, [], ◌∷◌, sum_by, refl, sym, ap, ◌∙◌, inl, inr, arith}
use Rattle.std.specs.Int.{w64, cast_unsigned, cast_signed}
use Rattle.std.specs.List.{All}
use Rattle.std.proofs.Math.Nat.{mod-add-mod, add-mod-mod}
use Rattle.std.proofs.lemmas.Bool.{cases_Bool}
use Rattle.std.proofs.lemmas.Bool.Decides.{nat_tests}
use Rattle.std.proofs.lemmas.Int.{of_z-to_z}
use Rattle.std.proofs.lemmas.List.Elements.{All-head, All-tail}
use Rattle.std.proofs.lemmas.List.Sums.{sum_by-cons}
use Rattle.us_matrix.specs.declared.matrix.Triple.{Triple}
use Rattle.us_matrix.specs.Map.{Map, IsSide, IsMatrix, IsInShape, IsRisingFrom, AreEntries, place, value_at, in_front, added, entries_of, matrix_of}
use Rattle.us_matrix.specs.Sums.{bits_at, sum_at}
use Rattle.us_matrix.proofs.OneMatrixLemmas.{same_entries}
use Rattle.us_matrix.proofs.Merge.{open_at, value_from_sum, shown_fits, shown_nonzero}

rising_lower : (low from : ℕ) (ts : List Triple) → low ≤ from → IsRisingFrom from ts → IsRisingFrom low ts
rising_lower low from [] le h = tt
rising_lower low from (t ∷ ts) le h = (omega (arith, h.0), h.1)

-- ---- one entry in front

rising_front : (low i j bits : ℕ) (ts : List Triple) → low ≤ 2147483648 * i + j → IsRisingFrom (2147483648 * i + j + 1) ts → IsRisingFrom low (in_front i j bits ts)
rising_front low i j bits ts le h =
    elim (bits == 0) as (λ b. IsRisingFrom low (cond b ts (record { i = i; j = j; v = cast_signed w64 bits } ∷ ts))) [
      | true ↦ rising_lower low (2147483648 * i + j + 1) ts (omega arith) h
      | false ↦ (le, h)
    ]

entries_front : (rows cols i j bits : ℕ) (ts : List Triple) → i < rows → j < cols → bits < 2 ^ 64 → AreEntries rows cols ts → AreEntries rows cols (in_front i j bits ts)
entries_front rows cols i j bits ts row col small h =
    elim (cases_Bool (bits == 0)) [
      | inl none ↦ rw none h
      | inr some ↦ rw some ((record { row = row; col = col; value = shown_nonzero bits small (grind (arith, nat_tests)); fits = shown_fits bits small }), h)
    ]

open_zero : (b : Bool) (n : ℕ) → n ≡ 0 → cond b n 0 ≡ 0
open_zero true n e = e
open_zero false n e = refl

sums_front : (p q i j bits : ℕ) (ts : List Triple) → bits < 2 ^ 64 → sum_by (bits_at p q) (in_front i j bits ts) ≡ open_at p q i j bits + sum_by (bits_at p q) ts
sums_front p q i j bits ts small =
    elim (cases_Bool (bits == 0)) [
      | inl none ↦ let z = open_zero (i == p && j == q) bits (grind (arith, nat_tests)) in rw none (omega (arith, z))
      | inr some ↦ rw some (sum_by-cons (bits_at p q) (record { i = i; j = j; v = cast_signed w64 bits }) ts ∙ ap (λ n. cond (i == p && j == q) n 0 + sum_by (bits_at p q) ts) (of_z-to_z w64 bits small))
    ]

-- ---- one triple added

mod_below : (a : ℕ) → a % 2 ^ 64 < 2 ^ 64
mod_below a = omega arith

pub added_rising : (low : ℕ) (t : Triple) (es : List Triple) → low ≤ place t → IsRisingFrom low es → IsRisingFrom low (added t es)
added_rising low t [] le h = rising_front low t.i t.j _ [] le tt
added_rising low t (e ∷ es) le h =
    elim (cases_Bool (nat_lt (place t) (place e))) [
      | inl before ↦ rw before (rising_front low t.i t.j _ (e ∷ es) le (grind (arith, nat_tests), h.1))
      | inr not_before ↦ elim (cases_Bool (place t == place e)) [
        | inl here ↦ rw (not_before, here) (rising_front low e.i e.j _ es h.0 h.1)
        | inr behind ↦ rw (not_before, behind) (h.0, added_rising (place e + 1) t es (grind (arith, nat_tests)) h.1)
      ]
    ]

pub added_entries : (rows cols : ℕ) (t : Triple) (es : List Triple) → IsInShape rows cols t → AreEntries rows cols es → AreEntries rows cols (added t es)
added_entries rows cols t [] inside h = entries_front rows cols t.i t.j _ [] inside.row inside.col (mod_below (cast_unsigned w64 t.v)) tt
added_entries rows cols t (e ∷ es) inside h =
    elim (cases_Bool (nat_lt (place t) (place e))) [
      | inl before ↦ rw before (entries_front rows cols t.i t.j _ (e ∷ es) inside.row inside.col (mod_below (cast_unsigned w64 t.v)) h)
      | inr not_before ↦ elim (cases_Bool (place t == place e)) [
        | inl here ↦ rw (not_before, here) (entries_front rows cols e.i e.j _ es h.0.row h.0.col (mod_below _) h.1)
        | inr behind ↦ rw (not_before, behind) (h.0, added_entries rows cols t es inside h.1)
      ]
    ]

-- the sums at one coordinate, in each of the three cases

joined : (b : Bool) (m x y s : ℕ) → (cond b ((x + y) % m) 0 + s) % m ≡ (cond b x 0 + (cond b y 0 + s)) % m
joined true m x y s = mod-add-mod (x + y) m s ∙ ap (λ n. n % m) (omega arith)
joined false m x y s = ap (λ n. n % m) (omega arith)

open_mod : (b : Bool) (m x s : ℕ) → (cond b (x % m) 0 + s) % m ≡ (cond b x 0 + s) % m
open_mod true m x s = mod-add-mod x m s
open_mod false m x s = refl

passed : (m x y s r : ℕ) → r % m ≡ (x + s) % m → (y + r) % m ≡ (x + (y + s)) % m
passed m x y s r h = sym (add-mod-mod y r m) ∙ ap (λ n. (y + n) % m) h ∙ add-mod-mod y (x + s) m ∙ ap (λ n. n % m) (omega arith)

same_coordinate : (t e : Triple) → t.j < 2 ^ 31 → e.j < 2 ^ 31 → (place t == place e) ≡ true → (t.i ≡ e.i) × (t.j ≡ e.j)
same_coordinate t e small small_e h = let at : place t ≡ place e = grind (arith, nat_tests) in (omega arith, omega arith)

same_bits : (p q : ℕ) (t e : Triple) → t.i ≡ e.i → t.j ≡ e.j → bits_at p q t ≡ cond (e.i == p && e.j == q) (cast_unsigned w64 t.v) 0
same_bits p q t e row col = ap (λ b. cond b (cast_unsigned w64 t.v) 0) (ap (λ i. i == p && t.j == q) row ∙ ap (λ j. e.i == p && j == q) col)

pub added_sums : (rows cols p q : ℕ) (t : Triple) (es : List Triple) → cols < 2 ^ 31 → IsInShape rows cols t → AreEntries rows cols es
    → sum_by (bits_at p q) (added t es) % 2 ^ 64 ≡ (bits_at p q t + sum_by (bits_at p q) es) % 2 ^ 64
added_sums rows cols p q t [] side inside h = ap (λ n. n % 2 ^ 64) (sums_front p q t.i t.j _ [] (mod_below (cast_unsigned w64 t.v))) ∙ open_mod (t.i == p && t.j == q) (2 ^ 64) (cast_unsigned w64 t.v) 0
added_sums rows cols p q t (e ∷ es) side inside h =
    elim (cases_Bool (nat_lt (place t) (place e))) [
      | inl before ↦ rw before (ap (λ n. n % 2 ^ 64) (sums_front p q t.i t.j _ (e ∷ es) (mod_below (cast_unsigned w64 t.v))) ∙ open_mod (t.i == p && t.j == q) (2 ^ 64) (cast_unsigned w64 t.v) (sum_by (bits_at p q) (e ∷ es)))
      | inr not_before ↦ elim (cases_Bool (place t == place e)) [
        | inl here ↦
            let at = same_coordinate t e (omega (arith, inside.col)) (omega (arith, h.0.col)) here in
            rw (not_before, here)
            (ap (λ n. n % 2 ^ 64) (sums_front p q e.i e.j _ es (mod_below _))
            ∙ joined (e.i == p && e.j == q) (2 ^ 64) (cast_unsigned w64 t.v) (cast_unsigned w64 e.v) (sum_by (bits_at p q) es)
            ∙ ap (λ n. n % 2 ^ 64) (ap (λ n. n + (bits_at p q e + sum_by (bits_at p q) es)) (sym (same_bits p q t e at.0 at.1)) ∙ ap (λ n. bits_at p q t + n) (sym (sum_by-cons (bits_at p q) e es))))
        | inr behind ↦
            rw (not_before, behind)
            (ap (λ n. n % 2 ^ 64) (sum_by-cons (bits_at p q) e (added t es))
            ∙ passed (2 ^ 64) (bits_at p q t) (bits_at p q e) (sum_by (bits_at p q) es) (sum_by (bits_at p q) (added t es)) (added_sums rows cols p q t es side inside h.1)
            ∙ ap (λ n. (bits_at p q t + n) % 2 ^ 64) (sym (sum_by-cons (bits_at p q) e es)))
      ]
    ]

-- ---- all triples

pub entries_of-rising : (ts : List Triple) → IsRisingFrom 0 (entries_of ts)
unfolding entries_of
entries_of-rising [] = tt
entries_of-rising (t ∷ ts) = added_rising 0 t (entries_of ts) (omega arith) (entries_of-rising ts)

pub entries_of-entries : (rows cols : ℕ) (ts : List Triple) → All (IsInShape rows cols) ts → AreEntries rows cols (entries_of ts)
unfolding entries_of
entries_of-entries rows cols [] inside = tt
entries_of-entries rows cols (t ∷ ts) inside =
    added_entries rows cols t (entries_of ts) (All-head (IsInShape rows cols) t ts inside)
    (entries_of-entries rows cols ts (All-tail (IsInShape rows cols) t ts inside))

entries_of-sums : (rows cols p q : ℕ) (ts : List Triple) → cols < 2 ^ 31 → All (IsInShape rows cols) ts
    → sum_by (bits_at p q) (entries_of ts) % 2 ^ 64 ≡ sum_by (bits_at p q) ts % 2 ^ 64
unfolding entries_of
entries_of-sums rows cols p q [] side inside = refl
entries_of-sums rows cols p q (t ∷ ts) side inside =
    let inside_tail = All-tail (IsInShape rows cols) t ts inside in
    added_sums rows cols p q t (entries_of ts) side (All-head (IsInShape rows cols) t ts inside) (entries_of-entries rows cols ts inside_tail)
    ∙ passed_in (2 ^ 64) (bits_at p q t) (sum_by (bits_at p q) (entries_of ts)) (sum_by (bits_at p q) ts) (entries_of-sums rows cols p q ts side inside_tail)
    ∙ ap (λ n. n % 2 ^ 64) (sym (sum_by-cons (bits_at p q) t ts))
  where
    passed_in : (m x r s : ℕ) → r % m ≡ s % m → (x + r) % m ≡ (x + s) % m
    passed_in m x r s h = sym (add-mod-mod x r m) ∙ ap (λ n. (x + n) % m) h ∙ add-mod-mod x s m

pub matrix_of-IsMatrix : (rows cols : ℕ) (ts : List Triple) → IsSide rows → IsSide cols → All (IsInShape rows cols) ts → IsMatrix (matrix_of rows cols ts)
matrix_of-IsMatrix rows cols ts r c inside = record { rows = r; cols = c; entries = entries_of-entries rows cols ts inside; rising = entries_of-rising ts }

pub entries_of-values : (rows cols : ℕ) (ts : List Triple) → cols < 2 ^ 31 → All (IsInShape rows cols) ts → (i j : ℕ) → value_at (entries_of ts) i j ≡ sum_at ts i j
entries_of-values rows cols ts side inside i j =
    value_from_sum rows cols 0 (entries_of ts) (entries_of-rising ts) (entries_of-entries rows cols ts inside) i j
    ∙ ap (cast_signed w64) (entries_of-sums rows cols i j ts side inside)

inside_shape : (rows cols : ℕ) (ts : List Triple) → AreEntries rows cols ts → All (IsInShape rows cols) ts
inside_shape rows cols [] h k d lt = absurd (omega arith)
inside_shape rows cols (t ∷ ts) h zero d lt = record { row = h.0.row; col = h.0.col }
inside_shape rows cols (t ∷ ts) h (suc k) d lt = inside_shape rows cols ts h.1 k d (omega arith)

-- the entries of a matrix make that matrix
pub matrix_of-entries : (m : Map) → IsMatrix m → matrix_of m.rows m.cols m.entries ≡ m
matrix_of-entries m im =
    let inside = inside_shape m.rows m.cols m.entries im.entries in
    let values : (i j : ℕ) → value_at (entries_of m.entries) i j ≡ value_at m.entries i j = λ i j. entries_of-values m.rows m.cols m.entries im.cols.high inside i j ∙ sym (value_from_sum m.rows m.cols 0 m.entries im.rising im.entries i j) in
    let same = same_entries m.rows m.cols 0 (entries_of m.entries) m.entries im.cols.high (entries_of-rising m.entries) im.rising (entries_of-entries m.rows m.cols m.entries inside) im.entries values in
    λ k. record { rows = m.rows; cols = m.cols; entries = same k }
