-- Counts of what passes a test.
use Rattle.std.proofs.Common.{◌≡◌, ◌+◌, ◌<◌, ◌≤◌, List, [], ◌∷◌, length, Bool, true, false, cond, sym, refl, subst, inl, inr, arith, count_by}
use Rattle.std.proofs.lemmas.List.Sums.{sum_by-cons}
use Rattle.us_format.proofs.Order.{Mem}

pub count-cons : {A : Type 0} (p : A → Bool) (x : A) (xs : List A) → count_by p (x ∷ xs) ≡ cond (p x) 1 0 + count_by p xs
count-cons p x xs = sum_by-cons (λ y. cond (p y) 1 0) x xs

pub bit_le : (a b : Bool) → (a ≡ true → b ≡ true) → cond a 1 0 ≤ cond b 1 0
bit_le true b h = rw (h refl) (omega arith)
bit_le false b h = omega arith

pub count-le : {A : Type 0} (p q : A → Bool) (xs : List A) → ((x : A) → Mem x xs → p x ≡ true → q x ≡ true) → count_by p xs ≤ count_by q xs
count-le p q [] h = omega arith
count-le p q (x ∷ xs) h =
    rw (count-cons p x xs, count-cons q x xs) (omega (arith, bit_le (p x) (q x) (h x (inl refl)), count-le p q xs (λ y m. h y (inr m))))

pub count-lt : {A : Type 0} (p q : A → Bool) (xs : List A) (y : A) → ((x : A) → Mem x xs → p x ≡ true → q x ≡ true) → Mem y xs → p y ≡ false → q y ≡ true → count_by p xs < count_by q xs
count-lt p q [] y h m f t = absurd m
count-lt {A} p q (x ∷ xs) y h (inl e) f t =
    let f' : p x ≡ false = subst (λ (z : A). p z ≡ false) (sym e) f in
    let t' : q x ≡ true = subst (λ (z : A). q z ≡ true) (sym e) t in
    rw (count-cons p x xs, count-cons q x xs, f', t') (omega (arith, count-le p q xs (λ y m. h y (inr m))))
count-lt p q (x ∷ xs) y h (inr m) f t =
    rw (count-cons p x xs, count-cons q x xs) (omega (arith, bit_le (p x) (q x) (h x (inl refl)), count-lt p q xs y (λ y m. h y (inr m)) m f t))

pub count-lt-length : {A : Type 0} (p : A → Bool) (xs : List A) (y : A) → Mem y xs → p y ≡ false → count_by p xs < length xs
count-lt-length p [] y m f = absurd m
count-lt-length {A} p (x ∷ xs) y (inl e) f =
    let f' : p x ≡ false = subst (λ (z : A). p z ≡ false) (sym e) f in
    rw (count-cons p x xs, f') (omega (arith, count-le-length p xs))
  where
    count-le-length : (p : A → Bool) (xs : List A) → count_by p xs ≤ length xs
    count-le-length p [] = omega arith
    count-le-length p (x ∷ xs) = rw (count-cons p x xs) (omega (arith, count-le-length p xs, bit_le (p x) true (λ _. refl)))
count-lt-length p (x ∷ xs) y (inr m) f = rw (count-cons p x xs) (omega (arith, bit_le (p x) true (λ _. refl), count-lt-length p xs y m f))
