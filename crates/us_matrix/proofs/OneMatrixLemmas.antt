-- Entries in order are known by the values that they give.
use Rattle.std.proofs.Common.{◌≡◌, ℕ, ◌+◌, ◌*◌, ◌^◌, ◌<◌, ◌==◌, ◌&&◌, true, false, cond, List, [], ◌∷◌, pos, refl, sym, ap, ◌∙◌, inl, inr, arith}
use Rattle.std.proofs.lemmas.Bool.{cases_Bool, cases_lt}
use Rattle.std.proofs.lemmas.Bool.Decides.{nat_tests}
use Rattle.us_matrix.specs.declared.matrix.Triple.{Triple}
use Rattle.us_matrix.specs.Map.{Map, IsMatrix, AreEntries, IsRisingFrom, place, value_at}
use Rattle.us_matrix.specs.Sums.{is_at}

-- entries from a place on have no value below it
pub below_none : (low i j : ℕ) (ts : List Triple) → IsRisingFrom low ts → 2147483648 * i + j < low → value_at ts i j ≡ pos 0
below_none low i j [] h lt = refl
below_none low i j (t ∷ ts) h lt =
    elim (cases_Bool (is_at i j t)) [
      | inl here ↦ absurd (grind (arith, nat_tests))
      | inr elsewhere ↦ ap (λ b. cond b t.v (value_at ts i j)) elsewhere ∙ below_none (place t + 1) i j ts h.1 (omega (arith, h.0))
    ]

here_true : (t : Triple) → is_at t.i t.j t ≡ true
here_true t = grind (arith, nat_tests)

first_value : (t : Triple) (ts : List Triple) → value_at (t ∷ ts) t.i t.j ≡ t.v
first_value t ts = ap (λ b. cond b t.v (value_at ts t.i t.j)) (here_true t)

same_place : (s t : Triple) → s.j < 2 ^ 31 → t.j < 2 ^ 31 → place s ≡ place t → (s.i ≡ t.i) × (s.j ≡ t.j)
same_place s t a b e = (omega arith, omega arith)

same_triple : (s t : Triple) → s.i ≡ t.i → s.j ≡ t.j → s.v ≡ t.v → s ≡ t
same_triple s t a b c = λ k. record { i = a k; j = b k; v = c k }

-- a first entry that stands before the other list has the value 0
first_alone : (x y : Triple) (xs ys : List Triple) → IsRisingFrom (place x + 1) xs → IsRisingFrom (place y + 1) ys → place x < place y → ((i j : ℕ) → value_at (x ∷ xs) i j ≡ value_at (y ∷ ys) i j) → x.v ≡ pos 0
first_alone x y xs ys rx ry before h =
    let rising : IsRisingFrom (place x + 1) (y ∷ ys) = (omega arith, ry) in
    sym (first_value x xs) ∙ h x.i x.j ∙ below_none (place x + 1) x.i x.j (y ∷ ys) rising (omega arith)

value_behind : (i j : ℕ) (t : Triple) (ts : List Triple) → is_at i j t ≡ false → value_at (t ∷ ts) i j ≡ value_at ts i j
value_behind i j t ts e = ap (λ b. cond b t.v (value_at ts i j)) e

same_tails : (x y : Triple) (xs ys : List Triple) → IsRisingFrom (place x + 1) xs → IsRisingFrom (place x + 1) ys → x.i ≡ y.i → x.j ≡ y.j
    → ((i j : ℕ) → value_at (x ∷ xs) i j ≡ value_at (y ∷ ys) i j) → (i j : ℕ) → value_at xs i j ≡ value_at ys i j
same_tails x y xs ys rx ry row col h i j =
    elim (cases_Bool (is_at i j x)) [
      | inl here ↦ let low : 2147483648 * i + j < place x + 1 = grind (arith, nat_tests) in below_none (place x + 1) i j xs rx low ∙ sym (below_none (place x + 1) i j ys ry low)
      | inr elsewhere ↦
          let other : is_at i j y ≡ false = ap (λ r. r == i && y.j == j) (sym row) ∙ ap (λ c. x.i == i && c == j) (sym col) ∙ elsewhere in
          sym (value_behind i j x xs elsewhere) ∙ h i j ∙ value_behind i j y ys other
    ]

pub same_entries : (rows cols low : ℕ) (xs ys : List Triple) → cols < 2 ^ 31 → IsRisingFrom low xs → IsRisingFrom low ys → AreEntries rows cols xs → AreEntries rows cols ys
    → ((i j : ℕ) → value_at xs i j ≡ value_at ys i j) → xs ≡ ys
same_entries rows cols low [] [] side rx ry ex ey h = refl
same_entries rows cols low [] (y ∷ ys) side rx ry ex ey h = absurd (ey.0.value (sym (h y.i y.j ∙ first_value y ys)))
same_entries rows cols low (x ∷ xs) [] side rx ry ex ey h = absurd (ex.0.value (sym (first_value x xs) ∙ h x.i x.j))
same_entries rows cols low (x ∷ xs) (y ∷ ys) side rx ry ex ey h =
    elim (cases_lt (place x) (place y)) [
      | inl before ↦ absurd (ex.0.value (first_alone x y xs ys rx.1 ry.1 before h))
      | inr not_before ↦ elim (cases_lt (place y) (place x)) [
        | inl after ↦ absurd (ey.0.value (first_alone y x ys xs ry.1 rx.1 after (λ i j. sym (h i j))))
        | inr not_after ↦
            let col_x : x.j < cols = ex.0.col in
            let col_y : y.j < cols = ey.0.col in
            let at : place x ≡ place y = omega arith in
            let both = same_place x y (omega arith) (omega arith) at in
            let head : x ≡ y = same_triple x y both.0 both.1 (sym (first_value x xs) ∙ h x.i x.j ∙ ap (λ i. value_at (y ∷ ys) i x.j) both.0 ∙ ap (value_at (y ∷ ys) y.i) both.1 ∙ first_value y ys) in
            let rising : IsRisingFrom (place x + 1) ys = rw at ry.1 in
            let tail : xs ≡ ys = same_entries rows cols (place x + 1) xs ys side rx.1 rising ex.1 ey.1 (same_tails x y xs ys rx.1 rising both.0 both.1 h) in
            ap (λ t. t ∷ xs) head ∙ ap (λ l. y ∷ l) tail
      ]
    ]

pub same_matrix : (m n : Map) → IsMatrix m → IsMatrix n → m.rows ≡ n.rows → m.cols ≡ n.cols → ((i j : ℕ) → value_at m.entries i j ≡ value_at n.entries i j) → m ≡ n
same_matrix m n im is_n rows cols h =
    let entries = same_entries n.rows n.cols 0 m.entries n.entries (omega (arith, is_n.cols.high)) im.rising is_n.rising (rw (← rows, ← cols) im.entries) is_n.entries h in
    λ k. record { rows = rows k; cols = cols k; entries = entries k }
