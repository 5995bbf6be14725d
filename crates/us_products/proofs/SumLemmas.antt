-- The sum over the entries of a row is the sum over the columns.
use Rattle.std.specs.Int.{w64, int_wrap}
use Rattle.std.proofs.Common.{◌≡◌, ◌≢◌, ℕ, zero, suc, ◌+◌, ◌*◌, ◌<◌, Bool, true, false, cond, nat_eq, List, [], ◌∷◌, ℤ, pos, ◌+ℤ◌, ◌*ℤ◌, ◌⊎◌, inl, inr, refl, sym, ap, ap₂, ◌∙◌, subst, arith}
use Rattle.std.proofs.Math.IntN.{+ℤ_assoc, +ℤ_comm, +ℤ_idl, zero-*ℤ}
use Rattle.std.proofs.lemmas.Bool.{cases_eq}
use Rattle.std.proofs.lemmas.Bool.Decides.{nat_tests}
use Rattle.us_matrix.specs.declared.matrix.Triple.{Triple}
use Rattle.us_matrix.specs.Map.{Map, IsMatrix, AreEntries, IsRisingFrom, place, value_at}
use Rattle.us_matrix.specs.Grid.{Grid}
use Rattle.us_matrix.specs.Sums.{is_at}
use Rattle.us_matrix.proofs.OneMatrixLemmas.{below_none}
use Rattle.us_format.specs.Program.{plain_entry, plain_entries, shape_in, entries_in}
use Rattle.us_gen_product.specs.Dense.{IsDense, adds, column, sum_over}
use Rattle.us_products.specs.Sums.{AreProducts, product_cell, sum_below}

-- ---- sums over the numbers below n

-- terms that agree have the same sum
same_sums : (f g : ℕ → ℤ) (n : ℕ) → ((j : ℕ) → j < n → f j ≡ g j) → sum_below f n ≡ sum_below g n
same_sums f g zero h = refl
same_sums f g (suc n) h = ap₂ (λ (a b : ℤ). a +ℤ b) (same_sums f g n (λ j lj. h j (omega (arith, lj)))) (h n (omega arith))

no_sum : (f : ℕ → ℤ) (n : ℕ) → ((j : ℕ) → f j ≡ pos 0) → sum_below f n ≡ pos 0
no_sum f zero h = refl
no_sum f (suc n) h = ap₂ (λ (a b : ℤ). a +ℤ b) (no_sum f n h) (h n)

swap_last : (a d b : ℤ) → (a +ℤ d) +ℤ b ≡ (a +ℤ b) +ℤ d
swap_last a d b = +ℤ_assoc a d b ∙ (ap (λ (z : ℤ). a +ℤ z) (+ℤ_comm d b) ∙ sym (+ℤ_assoc a b d))

-- one term is d more
one_more : (f g : ℕ → ℤ) (at : ℕ) (d : ℤ) (n : ℕ) → at < n → ((j : ℕ) → j ≢ at → f j ≡ g j) → f at ≡ g at +ℤ d → sum_below f n ≡ sum_below g n +ℤ d
one_more f g at d zero lt h e = absurd (omega (arith, lt))
one_more f g at d (suc n) lt h e = by (cases_eq n at) (λ below. one_more f g at d n below h e)
  where
    by : (n ≡ at) ⊎ (n ≢ at) → (at < n → sum_below f n ≡ sum_below g n +ℤ d) → sum_below f (suc n) ≡ sum_below g (suc n) +ℤ d
    by (inl q) front =
        let last : f n ≡ g n +ℤ d = subst (λ (k : ℕ). f k ≡ g k +ℤ d) (sym q) e in
        let same : sum_below f n ≡ sum_below g n = same_sums f g n (λ j lj. h j (λ p. omega (arith, lj, p, q))) in
        ap₂ (λ (a b : ℤ). a +ℤ b) same last ∙ sym (+ℤ_assoc (sum_below g n) (g n) d)
    by (inr other) front =
        let below : at < n = omega (arith, lt, other) in
        ap₂ (λ (a b : ℤ). a +ℤ b) (front below) (h n other) ∙ swap_last (sum_below g n) d (g n)

-- ---- values at a first entry and elsewhere

here : (i : ℕ) (t : Triple) → t.i ≡ i → is_at i t.j t ≡ true
here i t e = grind (arith, nat_tests)

other_row : (i j : ℕ) (t : Triple) → t.i ≢ i → is_at i j t ≡ false
other_row i j t n = grind (arith, nat_tests)

other_column : (i j : ℕ) (t : Triple) → j ≢ t.j → is_at i j t ≡ false
other_column i j t n = grind (arith, nat_tests)

value_here : (i : ℕ) (t : Triple) (ts : List Triple) → t.i ≡ i → value_at (t ∷ ts) i t.j ≡ t.v
value_here i t ts e = ap (λ (b : Bool). cond b t.v (value_at ts i t.j)) (here i t e)

value_behind : (i j : ℕ) (t : Triple) (ts : List Triple) → is_at i j t ≡ false → value_at (t ∷ ts) i j ≡ value_at ts i j
value_behind i j t ts e = ap (λ (b : Bool). cond b t.v (value_at ts i j)) e

-- the entries behind an entry have no value at its coordinate
none_behind : (i : ℕ) (t : Triple) (ts : List Triple) → t.i ≡ i → IsRisingFrom (place t + 1) ts → value_at ts i t.j ≡ pos 0
none_behind i t ts e rising = below_none (place t + 1) i t.j ts rising (omega (arith, e))

-- ---- one row times one column of the operand

-- what the value in column j adds
abbrev term : (ℕ → ℤ) → List Triple → ℕ → ℕ → ℤ
term x ts i j = value_at ts i j *ℤ x j

-- an entry adds what it adds to the sum over the columns
one_entry : (cols : ℕ) (x : ℕ → ℤ) (i : ℕ) (t : Triple) (ts : List Triple) → t.j < cols → IsRisingFrom (place t + 1) ts
    → adds x i (plain_entry t) +ℤ sum_below (term x ts i) cols ≡ sum_below (term x (t ∷ ts) i) cols
one_entry cols x i t ts col rising = by (cases_eq t.i i)
  where
    by : (t.i ≡ i) ⊎ (t.i ≢ i) → adds x i (plain_entry t) +ℤ sum_below (term x ts i) cols ≡ sum_below (term x (t ∷ ts) i) cols
    by (inl e) =
        let d : ℤ = t.v *ℤ x t.j in
        let row : nat_eq t.i i ≡ true = grind (arith, nat_tests) in
        let added : adds x i (plain_entry t) ≡ d = ap (λ (b : Bool). cond b d (pos 0)) row in
        let old : term x ts i t.j ≡ pos 0 = ap (λ (v : ℤ). v *ℤ x t.j) (none_behind i t ts e rising) ∙ zero-*ℤ (x t.j) in
        let new : term x (t ∷ ts) i t.j ≡ d = ap (λ (v : ℤ). v *ℤ x t.j) (value_here i t ts e) in
        let at : term x (t ∷ ts) i t.j ≡ term x ts i t.j +ℤ d = new ∙ (sym (+ℤ_idl d) ∙ ap (λ (v : ℤ). v +ℤ d) (sym old)) in
        let others : (j : ℕ) → j ≢ t.j → term x (t ∷ ts) i j ≡ term x ts i j = λ j n. ap (λ (v : ℤ). v *ℤ x j) (value_behind i j t ts (other_column i j t n)) in
        ap (λ (v : ℤ). v +ℤ sum_below (term x ts i) cols) added
        ∙ (+ℤ_comm d (sum_below (term x ts i) cols) ∙ sym (one_more (term x (t ∷ ts) i) (term x ts i) t.j d cols col others at))
    by (inr n) =
        let row : nat_eq t.i i ≡ false = grind (arith, nat_tests) in
        let added : adds x i (plain_entry t) ≡ pos 0 = ap (λ (b : Bool). cond b (t.v *ℤ x t.j) (pos 0)) row in
        let same : sum_below (term x ts i) cols ≡ sum_below (term x (t ∷ ts) i) cols =
        same_sums (term x ts i) (term x (t ∷ ts) i) cols (λ j lj. ap (λ (v : ℤ). v *ℤ x j) (sym (value_behind i j t ts (other_row i j t n)))) in
        ap (λ (v : ℤ). v +ℤ sum_below (term x ts i) cols) added ∙ (+ℤ_idl (sum_below (term x ts i) cols) ∙ same)

-- the sum over the entries of a row is the sum over the columns
pub row_sums : (rows cols low : ℕ) (x : ℕ → ℤ) (i : ℕ) (ts : List Triple) → AreEntries rows cols ts → IsRisingFrom low ts
    → sum_over (adds x i) (plain_entries ts) ≡ sum_below (λ j. value_at ts i j *ℤ x j) cols
row_sums rows cols low x i [] inside rising = sym (no_sum (λ j. pos 0 *ℤ x j) cols (λ j. zero-*ℤ (x j)))
row_sums rows cols low x i (t ∷ ts) inside rising =
    ap (λ (v : ℤ). adds x i (plain_entry t) +ℤ v) (row_sums rows cols (place t + 1) x i ts inside.1 rising.1) ∙ one_entry cols x i t ts inside.0.col rising.1

-- ---- all cells

cells_are_sums : (m : Map) (x : Grid) (i k : ℕ) → IsMatrix m → int_wrap w64 (sum_over (adds (column x.cells m.cols k) i) (entries_in m)) ≡ product_cell m x i k
cells_are_sums m x i k is = ap (int_wrap w64) (row_sums m.rows m.cols 0 (column x.cells m.cols k) i m.entries is.entries is.rising)

-- the cells of a product by entries are its cells by columns
pub dense_is_products : (m : Map) (x : Grid) (cells : List ℤ) → IsMatrix m → IsDense (shape_in m) (entries_in m) x.cols x.cells cells → AreProducts m x cells
dense_is_products m x cells is dense = record {
  long = dense.long;
  each = λ i k li lk. dense.each k i lk li ∙ cells_are_sums m x i k is;
}
