-- Counts by index.
use Rattle.std.proofs.Common.{◌≡◌, ℕ, zero, suc, ◌+◌, ◌<◌, ◌≤◌, List, [], ◌∷◌, length, get_or, take, Bool, true, false, cond, sym, refl, ap, ◌∙◌, inl, inr, arith, count_by, add-one, max, fold}
use Rattle.us_format.proofs.Counting.{count-cons, count-lt}
use Rattle.us_format.proofs.Order.{Mem}
use Rattle.us_format.proofs.Members.{contains-Mem}
use Rattle.us_query.proofs.EntryCounts.{count-more}
use Rattle.std.proofs.lemmas.List.{get_or_default}

-- what passes stands from a to b
pub count-window : {A : Type 0} (p : A → Bool) (xs : List A) (a b : ℕ) (d : A) → a ≤ b → b ≤ length xs → ((i : ℕ) → i < a → p (get_or xs i d) ≡ false)
    → ((i : ℕ) → a ≤ i → i < b → p (get_or xs i d) ≡ true) → ((i : ℕ) → b ≤ i → i < length xs → p (get_or xs i d) ≡ false) → count_by p xs + a ≡ b
count-window p [] a b d h l f g k = omega (arith, h, l)
count-window p (x ∷ xs) zero zero d h l f g k =
    let e : ◌≡◌ {A = ℕ} (cond (p x) 1 0) 0 = ap (λ (t : Bool). cond t 1 0) (k zero (omega arith) (omega arith)) in
    omega (arith, count-cons p x xs, e, count-window p xs zero zero d (omega arith) (omega arith) (λ i m. absurd (omega (arith, m))) (λ i m n. absurd (omega (arith, n))) (λ i m n. k (suc i) (omega arith) (omega (arith, n))))
count-window p (x ∷ xs) zero (suc b) d h l f g k =
    let e : ◌≡◌ {A = ℕ} (cond (p x) 1 0) 1 = ap (λ (t : Bool). cond t 1 0) (g zero (omega arith) (omega arith)) in
    omega (arith, count-cons p x xs, e, count-window p xs zero b d (omega arith) (omega (arith, l)) (λ i m. absurd (omega (arith, m))) (λ i m n. g (suc i) (omega arith) (omega (arith, n))) (λ i m n. k (suc i) (omega (arith, m)) (omega (arith, n))))
count-window p (x ∷ xs) (suc a) zero d h l f g k = absurd (omega (arith, h))
count-window p (x ∷ xs) (suc a) (suc b) d h l f g k =
    let e : ◌≡◌ {A = ℕ} (cond (p x) 1 0) 0 = ap (λ (t : Bool). cond t 1 0) (f zero (omega arith)) in
    omega (arith, count-cons p x xs, e, count-window p xs a b d (omega (arith, h)) (omega (arith, l)) (λ i m. f (suc i) (omega (arith, m))) (λ i m n. g (suc i) (omega (arith, m)) (omega (arith, n))) (λ i m n. k (suc i) (omega (arith, m)) (omega (arith, n))))

pub count-step : {A : Type 0} (p : A → Bool) (xs : List A) (k : ℕ) (d : A) → k < length xs → count_by p (take (suc k) xs) ≡ count_by p (take k xs) + cond (p (get_or xs k d)) 1 0
count-step p xs k d h = ap (λ (j : ℕ). count_by p (take j xs)) (sym (add-one k)) ∙ count-more p xs k d h

-- where something passes, there is the first place of it
pub count-find : {A : Type 0} (p : A → Bool) (xs : List A) (d : A) → 0 < count_by p xs → (x : ℕ) × (x < length xs) × (p (get_or xs x d) ≡ true)
count-find p [] d h = absurd (omega (arith, h))
count-find {A} p (x ∷ xs) d h = go (p x) refl (count-find p xs d)
  where
    go : (t : Bool) → p x ≡ t → (0 < count_by p xs → (y : ℕ) × (y < length xs) × (p (get_or xs y d) ≡ true)) → (y : ℕ) × (y < length (x ∷ xs)) × (p (get_or (x ∷ xs) y d) ≡ true)
    go true e ih = (zero, omega arith, e)
    go false e ih =
        let f : ◌≡◌ {A = ℕ} (cond (p x) 1 0) 0 = ap (λ (t : Bool). cond t 1 0) e in
        let r = ih (omega (arith, h, count-cons p x xs, f)) in
        (suc r.0, omega (arith, r.1), r.2)

pub count-some : {A : Type 0} (p : A → Bool) (xs : List A) (y : A) → Mem y xs → p y ≡ true → 0 < count_by p xs
count-some p xs y m e = omega (arith, count-lt (λ _. false) p xs y (λ x n f. absurd (differ f)) m refl e)
  where
    differ : false ≡ true → ⊥
    differ f = absurd (cc)

pub get-Mem : {A : Type 0} (xs : List A) (k : ℕ) (d : A) → k < length xs → Mem (get_or xs k d) xs
get-Mem xs k d l = contains-Mem xs (get_or xs k d) (k, l, get_or_default xs k (get_or xs k d) d l)

-- ---- the greatest

pub greatest-low : (xs : List ℕ) (a b : ℕ) → a ≤ b → ((z : ℕ) → Mem z xs → z ≤ b) → fold max a xs ≤ b
greatest-low [] a b h f = h
greatest-low (x ∷ xs) a b h f = greatest-low xs (max a x) b (omega (arith, h, f x (inl refl))) (λ z m. f z (inr m))
