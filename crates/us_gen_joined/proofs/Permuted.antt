-- Numbers that are all those of a range, each once.
use Rattle.std.specs.List.{remove, range_with_len}
use Rattle.std.specs.List.Sorted.{IsPermutation}
use Rattle.std.proofs.Common.{◌≡◌, ℕ, zero, suc, ◌+◌, ◌-◌, ◌<◌, ◌≤◌, List, [], ◌∷◌, ◌++◌, length, Bool, true, false, eqb, ltb, sym, refl, ap, ◌∙◌, subst, inl, inr, arith, count_by, lt-ltb, le-ltb}
use Rattle.std.proofs.lemmas.Bool.{ne_eqb, false≢true}
use Rattle.std.proofs.lemmas.List.Sorted.{IsPermutation-cons, IsPermutation-refl, IsPermutation-remove, IsPermutation-trans, Contains-permutation, length_permutation}
use Rattle.us_format.specs.Lists.{among}
use Rattle.us_format.proofs.Order.{Mem}
use Rattle.us_format.proofs.Members.{contains-Mem, Mem-contains}
use Rattle.us_format.proofs.Collect.{Distinct, among-Mem, Mem-among}
use Rattle.us_format_loops.proofs.Counts.{count-all, count-none, count-once, count-split}

-- ---- none is missing

absent : (q : ℕ) (xs : List ℕ) → among q xs ≡ false → count_by (λ y. eqb y q) xs ≡ 0
absent q xs e = count-none (λ y. eqb y q) xs (λ y my. ne_eqb y q (λ h. false≢true (sym e ∙ Mem-among q xs (subst (λ (z : ℕ). Mem z xs) h my))))

once : (xs : List ℕ) → Distinct xs → (q : ℕ) → count_by (λ y. eqb y q) xs ≤ 1
once xs d q = go (among q xs) refl
  where
    go : (b : Bool) → among q xs ≡ b → count_by (λ y. eqb y q) xs ≤ 1
    go true e = omega (arith, count-once q xs d (among-Mem q xs e))
    go false e = omega (arith, absent q xs e)

below_few : (xs : List ℕ) → Distinct xs → (q : ℕ) → count_by (λ y. ltb y q) xs ≤ q
below_few xs d zero = omega (arith, count-none (λ y. ltb y 0) xs (λ y my. le-ltb y 0 (omega arith)))
below_few xs d (suc q) = omega (arith, count-split q xs, below_few xs d q, once xs d q)

rises : (xs : List ℕ) → Distinct xs → (q k n : ℕ) → n ≡ q + k → count_by (λ y. ltb y n) xs ≤ count_by (λ y. ltb y q) xs + k
rises xs d q zero n e =
    let same : n ≡ q = omega (arith, e) in
    omega (arith, ap (λ (x : ℕ). count_by (λ y. ltb y x) xs) same)
rises xs d q (suc k) n e =
    let same : n ≡ suc (q + k) = omega (arith, e) in
    omega (arith, ap (λ (x : ℕ). count_by (λ y. ltb y x) xs) same, count-split (q + k) xs, once xs d (q + k), rises xs d q k (q + k) refl)

-- different numbers, below as many as there are
pub is_there : (xs : List ℕ) → Distinct xs → ((y : ℕ) → Mem y xs → y < length xs) → (q : ℕ) → q < length xs → Mem q xs
is_there xs d low q l = go (among q xs) refl
  where
    some : 0 < count_by (λ y. eqb y q) xs
    some =
        let all : count_by (λ y. ltb y (length xs)) xs ≡ length xs = count-all (λ y. ltb y (length xs)) xs (λ y my. lt-ltb y (length xs) (low y my)) in
        omega (arith, all, count-split q xs, below_few xs d q, rises xs d (suc q) (length xs - suc q) (length xs) (omega (arith, l)))

    go : (b : Bool) → among q xs ≡ b → Mem q xs
    go true e = among-Mem q xs e
    go false e = absurd (omega (arith, some, absent q xs e))

-- ---- so they are the range in another order

behind : (a q : ℕ) (zs : List ℕ) → a + 1 ≤ q → Mem q (a ∷ zs) → Mem q zs
behind a q zs l (inl e) = absurd (omega (arith, l, e))
behind a q zs l (inr h) = h

pub permuted : (n a : ℕ) (xs : List ℕ) → length xs ≡ n → ((q : ℕ) → a ≤ q → q < a + n → Mem q xs) → IsPermutation xs (range_with_len a n)
permuted zero a [] l h = IsPermutation-refl []
permuted zero a (x ∷ xs) l h = absurd (omega (arith, l))
permuted (suc n) a xs l h =
    let first = Mem-contains xs a (h a (omega arith) (omega arith)) in
    let split : IsPermutation xs (a ∷ remove xs first.0) = IsPermutation-remove xs first.0 a first.1 (sym first.2) in
    IsPermutation-trans xs (a ∷ remove xs first.0) (a ∷ range_with_len (a + 1) n) split
    (IsPermutation-cons a (remove xs first.0) (range_with_len (a + 1) n)
    (permuted n (a + 1) (remove xs first.0) (omega (arith, length_permutation xs (a ∷ remove xs first.0) split, l))
    (λ q lo hi.
    behind a q (remove xs first.0) lo
    (contains-Mem (a ∷ remove xs first.0) q (Contains-permutation xs (a ∷ remove xs first.0) q split (Mem-contains xs q (h q (omega (arith, lo)) (omega (arith, hi)))))))))

pub range-append : (a m n : ℕ) → range_with_len a (m + n) ≡ range_with_len a m ++ range_with_len (a + m) n
range-append a zero n =
    let same : a ≡ a + 0 = omega arith in
    let number : 0 + n ≡ n = omega arith in
    ap (λ (x : ℕ). range_with_len a x) number ∙ ap (λ (x : ℕ). range_with_len x n) same
range-append a (suc m) n =
    let number : suc m + n ≡ suc (m + n) = omega arith in
    let start : (a + 1) + m ≡ a + suc m = omega arith in
    ap (λ (x : ℕ). range_with_len a x) number
    ∙ ap (λ (zs : List ℕ). a ∷ zs) (range-append (a + 1) m n ∙ ap (λ (x : ℕ). range_with_len (a + 1) m ++ range_with_len x n) start)
