-- What the loop that adds up sorted triples keeps.
use Rattle.std.proofs.Common.{◌≡◌, ◌≢◌, ℕ, ◌+◌, ◌*◌, ◌%◌, ◌^◌, ◌<◌, ◌≤◌, ◌==◌, ◌&&◌, Bool, true, false, cond, List, [], ◌∷◌, ◌++◌, length, take, drop, get_or, sum_by, ◌⊎◌, ℤ, pos, FitsSigned, refl, sym, zero-add, add-zero, add_assoc, ap, ◌∙◌, inl, inr, arith}
use Rattle.std.specs.Int.{w64, cast_unsigned, cast_signed}
use Rattle.std.proofs.Math.Facts.{sfits_to_z, to_z_inj, Fits-of_z}
use Rattle.std.proofs.lemmas.Int.{to_z-of_z, of_z-to_z}
use Rattle.std.proofs.lemmas.Bool.{cases_Bool, cases_eq}
use Rattle.std.proofs.lemmas.Bool.Decides.{nat_tests}
use Rattle.std.proofs.lemmas.List.Sums.{sum_by_push, sum_by-cons, sum_by_more}
use Rattle.std.specs.List.{All}
use Rattle.std.specs.List.Sorted.{IsNonDecreasingBy}
use Rattle.std.proofs.lemmas.List.{get_or_default, get_or-drop, drop-drop, take_all}
use Rattle.std.proofs.Math.Nat.{mod-add-mod, add-mod-mod, mod-eq_of_lt}
use Rattle.us_matrix.specs.declared.matrix.Triple.{Triple}
use Rattle.us_matrix.specs.Map.{IsSide, IsInShape, IsEntry, AreEntries, IsRisingFrom, place, value_at}
use Rattle.us_matrix.specs.Sums.{is_at, bits_at, sum_at, with_sum}

-- entries in row-major order, at places from low on and below high
abbrev pub IsRisingTo : ℕ → ℕ → List Triple → Type 0
IsRisingTo low high [] = low ≤ high
IsRisingTo low high (t ∷ ts) = (low ≤ place t) × IsRisingTo (place t + 1) high ts

pub rising_push : (low high next : ℕ) (ts : List Triple) (y : Triple) → IsRisingTo low high ts → high ≤ place y → place y < next → IsRisingTo low next (ts ++ y ∷ [])
rising_push low high next [] y h le lt = (omega arith, omega arith)
rising_push low high next (t ∷ ts) y h le lt = (h.0, rising_push (place t + 1) high next ts y h.1 le lt)

pub rising_more : (low high next : ℕ) (ts : List Triple) → IsRisingTo low high ts → high ≤ next → IsRisingTo low next ts
rising_more low high next [] h le = omega arith
rising_more low high next (t ∷ ts) h le = (h.0, rising_more (place t + 1) high next ts h.1 le)

pub rising_from : (low high : ℕ) (ts : List Triple) → IsRisingTo low high ts → IsRisingFrom low ts
rising_from low high [] h = tt
rising_from low high (t ∷ ts) h = (h.0, rising_from (place t + 1) high ts h.1)

pub entries_push : (rows cols : ℕ) (ts : List Triple) (y : Triple) → AreEntries rows cols ts → IsEntry rows cols y → AreEntries rows cols (ts ++ y ∷ [])
entries_push rows cols [] y h e = (e, tt)
entries_push rows cols (t ∷ ts) y h e = (h.0, entries_push rows cols ts y h.1 e)

-- bits below 2^64, shown signed, fit, and are 0 only where the bits are
pub shown_fits : (n : ℕ) → n < 2 ^ 64 → FitsSigned w64 (cast_signed w64 n)
shown_fits n h = sfits_to_z {w = w64} {n = n} (omega arith)

pub shown_nonzero : (n : ℕ) → n < 2 ^ 64 → n ≢ 0 → cast_signed w64 n ≢ pos 0
shown_nonzero n h ne e = ne (to_z_inj {w = w64} {a = n} {b = 0} (omega arith) (omega arith) e)

pub rising_with : (es : List Triple) (i j bits next : ℕ) → IsRisingTo 0 (2147483648 * i + j) es → 2147483648 * i + j < next → IsRisingTo 0 next (with_sum es i j bits)
rising_with es i j bits next h lt =
    elim (bits == 0) as (λ b. IsRisingTo 0 next (cond b es (es ++ record { i = i; j = j; v = cast_signed w64 bits } ∷ []))) [
      | true ↦ rising_more 0 (2147483648 * i + j) next es h (omega arith)
      | false ↦ rising_push 0 (2147483648 * i + j) next es _ h (omega arith) lt
    ]

pub entries_with : (rows cols : ℕ) (es : List Triple) (i j bits : ℕ) → AreEntries rows cols es → i < rows → j < cols → bits < 2 ^ 64 → AreEntries rows cols (with_sum es i j bits)
entries_with rows cols es i j bits h row col small =
    elim (cases_Bool (bits == 0)) [
      | inl zero ↦ rw zero h
      | inr not_zero ↦ rw not_zero (entries_push rows cols es _ h (record { row = row; col = col; value = shown_nonzero bits small (grind (arith, nat_tests)); fits = shown_fits bits small }))
    ]

-- what the sum that is still open adds at (p, q)
abbrev pub open_at : ℕ → ℕ → ℕ → ℕ → ℕ → ℕ
open_at p q i j bits = cond (i == p && j == q) bits 0

open_zero : (b : Bool) (n : ℕ) → n ≡ 0 → cond b n 0 ≡ 0
open_zero true n e = e
open_zero false n e = refl

pub totals_with : (es : List Triple) (i j bits p q : ℕ) → bits < 2 ^ 64 → sum_by (bits_at p q) (with_sum es i j bits) ≡ sum_by (bits_at p q) es + open_at p q i j bits
totals_with es i j bits p q small =
    elim (cases_Bool (bits == 0)) [
      | inl zero ↦ let z = open_zero (i == p && j == q) bits (grind (arith, nat_tests)) in rw zero (omega (arith, z))
      | inr not_zero ↦ rw not_zero (sum_by_push (bits_at p q) es _ ∙ ap (λ n. sum_by (bits_at p q) es + cond (i == p && j == q) n 0) (of_z-to_z w64 bits small))
    ]

-- what the loop keeps: entries, and a sum that is still open at (i, j)
pub record Merging (rows cols : ℕ) (sorted : List Triple) (k : ℕ) (es : List Triple) (i j sum : ℕ) : Type 0 where
  pub rising : IsRisingTo 0 (2147483648 * i + j) es
  pub entries : AreEntries rows cols es
  pub row : i < rows
  pub col : j < cols
  pub order : (n : ℕ) (d : Triple) → k ≤ n → n < length sorted → 2147483648 * i + j ≤ place (get_or sorted n d)
  pub totals : (p q : ℕ) → sum_by (bits_at p q) (take k sorted) % 2 ^ 64 ≡ (sum_by (bits_at p q) es + open_at p q i j sum) % 2 ^ 64

-- entries at places from low on have nothing at a place below
pub below_zero : (rows cols low p q : ℕ) (ts : List Triple) → IsRisingFrom low ts → 2147483648 * p + q < low → sum_by (bits_at p q) ts ≡ 0
below_zero rows cols low p q [] h lt = refl
below_zero rows cols low p q (t ∷ ts) h lt =
    elim (cases_Bool (is_at p q t)) [
      | inl here ↦ absurd (grind (arith, nat_tests))
      | inr elsewhere ↦ sum_by-cons (bits_at p q) t ts ∙ rw elsewhere (zero-add _ ∙ below_zero rows cols (place t + 1) p q ts h.1 (omega (arith, h.0)))
    ]

-- of entries in order the sum at a coordinate is the value there
pub bits_small : (v : ℤ) → FitsSigned w64 v → cast_unsigned w64 v < 2 ^ 64
bits_small v f = omega (arith, Fits-of_z {w = w64} {z = v} f)

pub value_from_sum : (rows cols low : ℕ) (ts : List Triple) → IsRisingFrom low ts → AreEntries rows cols ts → (p q : ℕ) → value_at ts p q ≡ sum_at ts p q
value_from_sum rows cols low [] h e p q = refl
value_from_sum rows cols low (t ∷ ts) h e p q =
    elim (cases_Bool (is_at p q t)) [
      | inl here ↦
          let rest : sum_by (bits_at p q) ts ≡ 0 = below_zero rows cols (place t + 1) p q ts h.1 (grind (arith, nat_tests)) in
          let one : bits_at p q t ≡ cast_unsigned w64 t.v = rw here refl in
          let whole : sum_by (bits_at p q) (t ∷ ts) ≡ cast_unsigned w64 t.v = sum_by-cons (bits_at p q) t ts ∙ omega arith in
          ap (λ b. cond b t.v (value_at ts p q)) here ∙ (sym (ap (λ n. cast_signed w64 (n % 2 ^ 64)) whole ∙ ap (cast_signed w64) (mod-eq_of_lt {n = cast_unsigned w64 t.v} {m = 2 ^ 64} (bits_small t.v e.0.fits)) ∙ to_z-of_z w64 t.v e.0.fits))
      | inr elsewhere ↦
          let none : bits_at p q t ≡ 0 = rw elsewhere refl in
          let whole : sum_by (bits_at p q) (t ∷ ts) ≡ sum_by (bits_at p q) ts = sum_by-cons (bits_at p q) t ts ∙ omega arith in
          ap (λ b. cond b t.v (value_at ts p q)) elsewhere ∙ (value_from_sum rows cols (place t + 1) ts h.1 e.1 p q ∙ ap (λ n. cast_signed w64 (n % 2 ^ 64)) (sym whole))
    ]

-- one more value onto an open sum, modulo m
open_more : (b : Bool) (m before es sum v : ℕ) → before % m ≡ (es + cond b sum 0) % m → (before + cond b v 0) % m ≡ (es + cond b ((sum + v) % m) 0) % m
open_more true m before es sum v h =
    sym (mod-add-mod before m v) ∙ ap (λ x. (x + v) % m) h ∙ mod-add-mod (es + sum) m v ∙ ap (λ x. x % m) (add_assoc es sum v) ∙ sym (add-mod-mod es (sum + v) m)
open_more false m before es sum v h = ap (λ x. x % m) (add-zero before) ∙ h

pub totals_more : (p q i j sum : ℕ) (t : Triple) (before es : ℕ) → t.i ≡ i → t.j ≡ j → before % 2 ^ 64 ≡ (es + open_at p q i j sum) % 2 ^ 64
    → (before + bits_at p q t) % 2 ^ 64 ≡ (es + open_at p q i j ((sum + cast_unsigned w64 t.v) % 2 ^ 64)) % 2 ^ 64
totals_more p q i j sum t before es row col h =
    ap (λ b. (before + cond b (cast_unsigned w64 t.v) 0) % 2 ^ 64) (ap (λ x. x == p && t.j == q) row ∙ ap (λ x. i == p && x == q) col)
    ∙ open_more (i == p && j == q) (2 ^ 64) before es sum (cast_unsigned w64 t.v) h

open_none : (b : Bool) (n : ℕ) → n ≡ 0 → cond b n 0 ≡ 0
open_none true n e = e
open_none false n e = refl

-- the open sum goes to the entries, and one at the coordinate of the next triple is opened
pub totals_next : (p q i j sum : ℕ) (t : Triple) (before : ℕ) (es : List Triple) → sum < 2 ^ 64 → before % 2 ^ 64 ≡ (sum_by (bits_at p q) es + open_at p q i j sum) % 2 ^ 64
    → (before + bits_at p q t) % 2 ^ 64 ≡ (sum_by (bits_at p q) (with_sum es i j sum) + open_at p q t.i t.j ((0 + cast_unsigned w64 t.v) % 2 ^ 64)) % 2 ^ 64
totals_next p q i j sum t before es small h =
    totals_more p q t.i t.j 0 t before _ refl refl (h ∙ ap (λ x. x % 2 ^ 64) (sym (ap (λ x. sum_by (bits_at p q) (with_sum es i j sum) + x) (open_none (t.i == p && t.j == q) 0 refl) ∙ add-zero _ ∙ totals_with es i j sum p q small)))

pub merging_same : {rows cols : ℕ} (ts : List Triple) (k : ℕ) (es : List Triple) (i j sum : ℕ) (d : Triple) → Merging rows cols ts k es i j sum → k < length ts
    → (get_or ts k d).i ≡ i → (get_or ts k d).j ≡ j → Merging rows cols ts (k + 1) es i j ((sum + cast_unsigned w64 (get_or ts k d).v) % 2 ^ 64)
merging_same ts k es i j sum d m within row col = record {
  rising = m.rising;
  entries = m.entries;
  row = m.row;
  col = m.col;
  order = λ n e above below. m.order n e (omega arith) below;
  totals = λ p q. ap (λ x. x % 2 ^ 64) (sum_by_more (bits_at p q) ts k d within) ∙ totals_more p q i j sum (get_or ts k d) _ _ row col (m.totals p q);
}

-- i and j differ from those of t, which stands no earlier
later : (i j : ℕ) (t : Triple) → j < 2 ^ 31 → t.j < 2 ^ 31 → 2147483648 * i + j ≤ place t → (t.i ≢ i) ⊎ (t.j ≢ j) → 2147483648 * i + j < place t
later i j t small small_t le (inl ne) = omega arith
later i j t small small_t le (inr ne) = omega arith

pub merging_next : {rows cols : ℕ} (ts : List Triple) (k : ℕ) (es : List Triple) (i j sum : ℕ) (d : Triple) → IsSide cols → IsNonDecreasingBy place ts → Merging rows cols ts k es i j sum → k < length ts → sum < 2 ^ 64
    → IsInShape rows cols (get_or ts k d) → ((get_or ts k d).i ≢ i) ⊎ ((get_or ts k d).j ≢ j)
    → Merging rows cols ts (k + 1) (with_sum es i j sum) (get_or ts k d).i (get_or ts k d).j ((0 + cast_unsigned w64 (get_or ts k d).v) % 2 ^ 64)
merging_next {rows} {cols} ts k es i j sum d side up m within small inside differ =
    let t = get_or ts k d in
    let col : j < cols = m.col in
    let col_t : t.j < cols = inside.col in
    let high : cols < 2 ^ 31 = side.high in
    let lt : 2147483648 * i + j < place t = later i j t (omega arith) (omega arith) (m.order k d (omega arith) within) differ in
    record {
      rising = rising_with es i j sum (place t) m.rising lt;
      entries = entries_with rows cols es i j sum m.entries m.row m.col small;
      row = inside.row;
      col = inside.col;
      order = λ n e above below. let h : place t ≤ place (get_or ts n e) = rw (get_or_default ts k d e within) (up k n e (omega arith) below) in h;
      totals = λ p q. ap (λ x. x % 2 ^ 64) (sum_by_more (bits_at p q) ts k d within) ∙ totals_next p q i j sum t _ es small (m.totals p q);
    }

-- after the last triple the open sum goes to the entries
pub merged_rising : {rows cols : ℕ} (ts : List Triple) (k : ℕ) (es : List Triple) (i j sum : ℕ) → Merging rows cols ts k es i j sum → IsRisingFrom 0 (with_sum es i j sum)
merged_rising ts k es i j sum m = rising_from 0 (2147483648 * i + j + 1) _ (rising_with es i j sum (2147483648 * i + j + 1) m.rising (omega arith))

pub merged_entries : {rows cols : ℕ} (ts : List Triple) (k : ℕ) (es : List Triple) (i j sum : ℕ) → Merging rows cols ts k es i j sum → sum < 2 ^ 64 → AreEntries rows cols (with_sum es i j sum)
merged_entries {rows} {cols} ts k es i j sum m small = entries_with rows cols es i j sum m.entries m.row m.col small

pub merged_values : {rows cols : ℕ} (ts : List Triple) (k : ℕ) (es : List Triple) (i j sum : ℕ) → Merging rows cols ts k es i j sum → length ts ≤ k → sum < 2 ^ 64 → (p q : ℕ) → value_at (with_sum es i j sum) p q ≡ sum_at ts p q
merged_values {rows} {cols} ts k es i j sum m all small p q =
    value_from_sum rows cols 0 _ (merged_rising ts k es i j sum m) (merged_entries ts k es i j sum m small) p q
    ∙ ap (cast_signed w64) (ap (λ x. x % 2 ^ 64) (totals_with es i j sum p q small) ∙ sym (m.totals p q) ∙ ap (λ l. sum_by (bits_at p q) l % 2 ^ 64) (take_all k ts all))

-- the triples from k on stand as they were, and what is done stands in front, with room for one more sum where it isn't 0
pub record InPlace (before now : List Triple) (k count sum : ℕ) : Type 0 where
  pub rest : drop k now ≡ drop k before
  pub within : count ≤ k
  pub room : sum ≢ 0 → count < k
  pub len : length now ≡ length before

same_at : (k : ℕ) (now before : List Triple) (d : Triple) → drop k now ≡ drop k before → get_or now k d ≡ get_or before k d
same_at k now before d h =
    ap (λ n. get_or now n d) (sym (add-zero k)) ∙ sym (get_or-drop k now 0 d) ∙ ap (λ l. get_or l 0 d) h ∙ get_or-drop k before 0 d ∙ ap (λ n. get_or before n d) (add-zero k)

next_rest : (k : ℕ) (now before : List Triple) → drop k now ≡ drop k before → drop (k + 1) now ≡ drop (k + 1) before
next_rest k now before h = sym (drop-drop 1 k now) ∙ ap (drop 1) h ∙ drop-drop 1 k before

-- a triple at the coordinate of the open sum
pub step_same : {rows cols : ℕ} (ts now : List Triple) (k count i j sum next : ℕ) (d : Triple) → Merging rows cols ts k (take count now) i j sum × InPlace ts now k count sum → k < length ts
    → (get_or now k d).i ≡ i → (get_or now k d).j ≡ j → next ≡ (sum + cast_unsigned w64 (get_or now k d).v) % 2 ^ 64
    → Merging rows cols ts (k + 1) (take count now) i j next × InPlace ts now (k + 1) count next
step_same ts now k count i j sum next d m lt row col is =
    let here : get_or now k d ≡ get_or ts k d = same_at k now ts d m.1.rest in
    let bits : next ≡ (sum + cast_unsigned w64 (get_or ts k d).v) % 2 ^ 64 = is ∙ ap (λ t. (sum + cast_unsigned w64 t.v) % 2 ^ 64) here in (
      rw bits (merging_same ts k (take count now) i j sum d m.0 lt (ap (λ t. t.i) (sym here) ∙ row) (ap (λ t. t.j) (sym here) ∙ col)),
      record {
        rest = next_rest k now ts m.1.rest;
        within = omega (arith, m.1.within);
        room = λ some. omega (arith, m.1.within);
        len = m.1.len;
      },
    )

-- what writing the open sum leaves as it was
after_sum : (now new : List Triple) (k count sum : ℕ) → (sum ≢ 0 → count < k) → ((n : ℕ) → count < n → drop n new ≡ drop n now) → (sum ≡ 0 → new ≡ now) → drop k new ≡ drop k now
after_sum now new k count sum room behind none = elim (cases_eq sum 0) [ inl zero ↦ ap (drop k) (none zero) | inr some ↦ behind k (room some) ]

after_count : (k count sum result : ℕ) → count ≤ k → (sum ≢ 0 → count < k) → (sum ≡ 0 → result ≡ count) → result ≤ count + 1 → result ≤ k
after_count k count sum result within room none one = elim (cases_eq sum 0) [ inl zero ↦ omega (arith, none zero) | inr some ↦ omega (arith, room some) ]

-- a triple at a later coordinate: the open sum is written, and the triple opens the next
pub step_next : {rows cols : ℕ} (ts now new : List Triple) (k count result i j sum next : ℕ) (d : Triple) → IsSide cols → IsNonDecreasingBy place ts → Merging rows cols ts k (take count now) i j sum × InPlace ts now k count sum
    → k < length ts → sum < 2 ^ 64 → All (IsInShape rows cols) ts → ((get_or now k d).i ≢ i) ⊎ ((get_or now k d).j ≢ j)
    → take result new ≡ with_sum (take count now) i j sum → ((n : ℕ) → count < n → drop n new ≡ drop n now) → (sum ≡ 0 → (result ≡ count) × (new ≡ now)) → result ≤ count + 1 → length new ≡ length now
    → next ≡ (0 + cast_unsigned w64 (get_or now k d).v) % 2 ^ 64
    → Merging rows cols ts (k + 1) (take result new) (get_or now k d).i (get_or now k d).j next × InPlace ts new (k + 1) result next
step_next {rows} {cols} ts now new k count result i j sum next d side up m lt small inside differ front behind none one len is =
    let here : get_or now k d ≡ get_or ts k d = same_at k now ts d m.1.rest in
    let apart : ((get_or ts k d).i ≢ i) ⊎ ((get_or ts k d).j ≢ j) = rw (← here) differ in
    let merged = merging_next ts k (take count now) i j sum d side up m.0 lt small (inside k d lt) apart in
    let few : result ≤ k = after_count k count sum result m.1.within m.1.room (λ zero. (none zero).0) one in (
      rw (front, is, here) merged,
      record {
        rest = next_rest k new ts (after_sum now new k count sum m.1.room behind (λ zero. (none zero).1) ∙ m.1.rest);
        within = omega arith;
        room = λ some. omega arith;
        len = len ∙ m.1.len;
      },
    )
