-- Membership, and the order of lists of numbers.
use Rattle.std.proofs.Common.{◌≡◌, ℕ, ◌<◌, ◌⊎◌, List, [], ◌∷◌, map, Bool, true, false, cond, not, ◌&&◌, ◌||◌, eqb, ltb, sym, refl, ap, ◌∙◌, subst, inl, inr, arith, ltb-true, lt-ltb, le-ltb, eqb-true, eq-eqb, filter}
use Rattle.std.proofs.lemmas.Bool.{or_cases, and_parts, and_from, or_left, or_right, or_from, and_right, cases_order}
use Rattle.us_format.specs.Lists.{different, lower, same}

abbrev pub Mem : {A : Type 0} → A → List A → Type 0
Mem x [] = ⊥
Mem x (y ∷ ys) = (y ≡ x) ⊎ Mem x ys

pub Mem-map : {A B : Type 0} (f : A → B) (x : A) (xs : List A) → Mem x xs → Mem (f x) (map f xs)
Mem-map f x [] h = h
Mem-map f x (y ∷ ys) (inl e) = inl (ap f e)
Mem-map f x (y ∷ ys) (inr h) = inr (Mem-map f x ys h)

pub Mem-of_map : {A B : Type 0} (f : A → B) (y : B) (xs : List A) → Mem y (map f xs) → (x : A) × Mem x xs × (f x ≡ y)
Mem-of_map f y [] h = absurd h
Mem-of_map f y (x ∷ xs) (inl e) = (x, inl refl, e)
Mem-of_map f y (x ∷ xs) (inr h) = let r = Mem-of_map f y xs h in (r.0, inr r.1, r.2)

pub Mem-filter : {A : Type 0} (p : A → Bool) (x : A) (xs : List A) → Mem x xs → p x ≡ true → Mem x (filter p xs)
Mem-filter p x [] h e = h
Mem-filter {A} p x (y ∷ ys) (inl q) e = subst (λ (z : A). Mem x (cond (p z) (z ∷ filter p ys) (filter p ys))) (sym q) (rw e (inl refl))
Mem-filter p x (y ∷ ys) (inr h) e = go (p y) (Mem-filter p x ys h e)
  where
    go : (b : Bool) → Mem x (filter p ys) → Mem x (cond b (y ∷ filter p ys) (filter p ys))
    go true m = inr m
    go false m = m

pub lower-irrefl : (x : List ℕ) → lower x x ≡ false
lower-irrefl [] = refl
lower-irrefl (x ∷ xs) = or_from _ _ (le-ltb x x (omega arith)) (and_right _ _ (lower-irrefl xs))

pub lower-trans : (x y z : List ℕ) → lower x y ≡ true → lower y z ≡ true → lower x z ≡ true
lower-trans [] [] z p q = absurd (cc)
lower-trans [] (y ∷ ys) [] p q = absurd (cc)
lower-trans [] (y ∷ ys) (z ∷ zs) p q = refl
lower-trans (x ∷ xs) [] z p q = absurd (cc)
lower-trans (x ∷ xs) (y ∷ ys) [] p q = absurd (cc)
lower-trans (x ∷ xs) (y ∷ ys) (z ∷ zs) p q = go (or_cases _ _ p) (or_cases _ _ q) (lower-trans xs ys zs)
  where
    go : ((ltb x y ≡ true) ⊎ ((eqb x y && lower xs ys) ≡ true)) → ((ltb y z ≡ true) ⊎ ((eqb y z && lower ys zs) ≡ true)) → (lower xs ys ≡ true → lower ys zs ≡ true → lower xs zs ≡ true) → (ltb x z || (eqb x z && lower xs zs)) ≡ true
    go (inl a) (inl b) ih = or_left _ _ (lt-ltb x z (omega (arith, ltb-true x y a, ltb-true y z b)))
    go (inl a) (inr b) ih = or_left _ _ (lt-ltb x z (omega (arith, ltb-true x y a, eqb-true y z (and_parts _ _ b).0)))
    go (inr a) (inl b) ih = or_left _ _ (lt-ltb x z (omega (arith, eqb-true x y (and_parts _ _ a).0, ltb-true y z b)))
    go (inr a) (inr b) ih = or_right _ _ (and_from _ _ (eq-eqb x z (eqb-true x y (and_parts _ _ a).0 ∙ eqb-true y z (and_parts _ _ b).0)) (ih (and_parts _ _ a).1 (and_parts _ _ b).1))

pub lower-cases : (x y : List ℕ) → (lower x y ≡ true) ⊎ ((x ≡ y) ⊎ (lower y x ≡ true))
lower-cases [] [] = inr (inl refl)
lower-cases [] (y ∷ ys) = inl refl
lower-cases (x ∷ xs) [] = inr (inr refl)
lower-cases (x ∷ xs) (y ∷ ys) = go (cases_order x y) (lower-cases xs ys)
  where
    go : ((x ≡ y) ⊎ ((x < y) ⊎ (y < x))) → ((lower xs ys ≡ true) ⊎ ((xs ≡ ys) ⊎ (lower ys xs ≡ true)))
        → ((ltb x y || (eqb x y && lower xs ys)) ≡ true) ⊎ ((x ∷ xs ≡ y ∷ ys) ⊎ ((ltb y x || (eqb y x && lower ys xs)) ≡ true))
    go (inl e) (inl h) = inl (or_right _ _ (and_from _ _ (eq-eqb x y e) h))
    go (inl e) (inr (inl h)) = inr (inl (cc))
    go (inl e) (inr (inr h)) = inr (inr (or_right _ _ (and_from _ _ (eq-eqb y x (sym e)) h)))
    go (inr (inl l)) _ = inl (or_left _ _ (lt-ltb x y l))
    go (inr (inr l)) _ = inr (inr (or_left _ _ (lt-ltb y x l)))

pub same-true : (x y : List ℕ) → same x y ≡ true → x ≡ y
same-true [] [] h = refl
same-true [] (y ∷ ys) h = absurd (cc)
same-true (x ∷ xs) [] h = absurd (cc)
same-true (x ∷ xs) (y ∷ ys) h = let e = eqb-true x y (and_parts _ _ h).0 in let f : xs ≡ ys = same-true xs ys (and_parts _ _ h).1 in cc

pub Mem-different : (x : List ℕ) (xs : List (List ℕ)) → Mem x xs → Mem x (different xs)
Mem-different x [] h = h
Mem-different x (y ∷ ys) (inl e) = inl e
Mem-different x (y ∷ ys) (inr h) = go (same y x) refl (Mem-different x ys h)
  where
    go : (b : Bool) → same y x ≡ b → Mem x (different ys) → Mem x (different (y ∷ ys))
    go true e m = inl (same-true y x e)
    go false e m = inr (Mem-filter (λ z. not (same y z)) x (different ys) m (ap not e))
