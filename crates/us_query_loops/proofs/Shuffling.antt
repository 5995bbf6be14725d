-- Entries that pass a test, in another order.
use Rattle.std.specs.List.{remove}
use Rattle.std.specs.List.Sorted.{IsPermutation}
use Rattle.std.proofs.Common.{◌≡◌, ℕ, ◌<◌, List, [], ◌∷◌, length, get_or, Bool, true, false, cond, ◌&&◌, eqb, int_eq, sym, refl, ap, ◌∙◌, inl, arith, count_by, filter, eq-eqb, eqb-true}
use Rattle.std.proofs.lemmas.Bool.{and_parts, and_from}
use Rattle.std.proofs.lemmas.List.Sorted.{IsPermutation-cons, IsPermutation-refl, IsPermutation-remove, IsPermutation-sym, IsPermutation-trans, sum_by-IsPermutation}
use Rattle.std.proofs.lemmas.List.Sums.{sum_by-remove}
use Rattle.us_format.proofs.Counting.{count-cons}
use Rattle.us_format.specs.Matrix.{Entry}
use Rattle.us_query_loops.proofs.Counted.{count-find, count-some}
use Rattle.us_query_loops.proofs.ValueOrder.{same-told, same-yes}

-- whether two entries are one
abbrev is_same : Entry → Entry → Bool
is_same z y = (eqb y.i z.i && eqb y.j z.j) && int_eq y.v z.v

same-entry : (z y : Entry) → is_same z y ≡ true → y ≡ z
same-entry z y h =
    let p = and_parts (eqb y.i z.i && eqb y.j z.j) (int_eq y.v z.v) h in
    let q = and_parts (eqb y.i z.i) (eqb y.j z.j) p.0 in
    let e : y.i ≡ z.i = eqb-true y.i z.i q.0 in
    let f : y.j ≡ z.j = eqb-true y.j z.j q.1 in
    let g : y.v ≡ z.v = same-told y.v z.v p.1 in
    λ t. record { i = e t; j = f t; v = g t }

same-self : (z : Entry) → is_same z z ≡ true
same-self z = and_from _ _ (and_from _ _ (eq-eqb z.i z.i refl) (eq-eqb z.j z.j refl)) (same-yes z.v z.v refl)

-- lists with each entry equally often are permutations
by-counts : (xs ys : List Entry) → ((z : Entry) → count_by (is_same z) xs ≡ count_by (is_same z) ys) → IsPermutation xs ys
by-counts [] [] h = IsPermutation-refl []
by-counts [] (y ∷ ys) h = absurd (omega (arith, h y, count-some (is_same y) (y ∷ ys) y (inl refl) (same-self y)))
by-counts (x ∷ xs) ys h =
    let some : 0 < count_by (is_same x) (x ∷ xs) = count-some (is_same x) (x ∷ xs) x (inl refl) (same-self x) in
    let r = count-find (is_same x) ys x (omega (arith, some, h x)) in
    taken r.0 r.1 (same-entry x (get_or ys r.0 x) r.2) (by-counts xs (remove ys r.0))
  where
    taken : (k : ℕ) → k < length ys → get_or ys k x ≡ x → (((z : Entry) → count_by (is_same z) xs ≡ count_by (is_same z) (remove ys k)) → IsPermutation xs (remove ys k)) → IsPermutation (x ∷ xs) ys
    taken k l e ih =
        IsPermutation-trans (x ∷ xs) (x ∷ remove ys k) ys (IsPermutation-cons x xs (remove ys k) (ih left))
        (IsPermutation-sym ys (x ∷ remove ys k) (IsPermutation-remove ys k x l (sym e)))
      where
        left : (z : Entry) → count_by (is_same z) xs ≡ count_by (is_same z) (remove ys k)
        left z =
            let c : ◌≡◌ {A = ℕ} (cond (is_same z (get_or ys k x)) 1 0) (cond (is_same z x) 1 0) = ap (λ (y : Entry). cond (is_same z y) 1 0) e in
            omega (arith, count-cons (is_same z) x xs, h z, sum_by-remove (λ y. cond (is_same z y) 1 0) ys k x l, c)

count-filter : (p q : Entry → Bool) (xs : List Entry) → count_by q (filter p xs) ≡ count_by (λ y. p y && q y) xs
count-filter p q [] = refl
count-filter p q (x ∷ xs) = go (p x) refl (count-filter p q xs)
  where
    go : (t : Bool) → p x ≡ t → count_by q (filter p xs) ≡ count_by (λ y. p y && q y) xs → count_by q (filter p (x ∷ xs)) ≡ count_by (λ y. p y && q y) (x ∷ xs)
    go true e ih =
        let c : ◌≡◌ {A = ℕ} (cond (p x && q x) 1 0) (cond (q x) 1 0) = ap (λ (t : Bool). cond (t && q x) 1 0) e in
        ap (λ (t : Bool). count_by q (cond t (x ∷ filter p xs) (filter p xs))) e
        ∙ omega (arith, count-cons q x (filter p xs), count-cons (λ y. p y && q y) x xs, c, ih)
    go false e ih =
        let c : ◌≡◌ {A = ℕ} (cond (p x && q x) 1 0) 0 = ap (λ (t : Bool). cond (t && q x) 1 0) e in
        ap (λ (t : Bool). count_by q (cond t (x ∷ filter p xs) (filter p xs))) e
        ∙ omega (arith, count-cons (λ y. p y && q y) x xs, c, ih)

pub shuffled-filter : (p : Entry → Bool) (xs ys : List Entry) → IsPermutation xs ys → IsPermutation (filter p xs) (filter p ys)
shuffled-filter p xs ys h =
    by-counts (filter p xs) (filter p ys)
    (λ z. count-filter p (is_same z) xs
    ∙ sym (sum_by-IsPermutation (λ y. cond (p y && is_same z y) 1 0) xs ys h)
    ∙ sym (count-filter p (is_same z) ys))
