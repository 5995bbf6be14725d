-- Counts of what passes a test, over members.
use Rattle.std.proofs.Common.{◌≡◌, ℕ, zero, suc, ◌+◌, ◌<◌, ◌⊎◌, List, [], ◌∷◌, length, get_or, Bool, true, false, cond, not, sym, refl, ap, ◌∙◌, subst, inl, inr, arith, filter, count_by}
use Rattle.std.proofs.lemmas.Bool.{false≢true}
use Rattle.us_format.specs.Lists.{different, lower, rank, same}
use Rattle.us_format.proofs.Order.{Mem, lower-cases, lower-irrefl, lower-trans, same-true}
use Rattle.us_format.proofs.Counting.{count-cons}
use Rattle.us_format.proofs.Shuffled.{Mem-of_filter, same-self}

pub Mem-place : {A : Type 0} (x : A) (xs : List A) (d : A) → Mem x xs → (k : ℕ) × (k < length xs) × (get_or xs k d ≡ x)
Mem-place x [] d h = absurd h
Mem-place x (y ∷ ys) d (inl e) = (0, omega arith, e)
Mem-place x (y ∷ ys) d (inr h) = let r = Mem-place x ys d h in (suc r.0, omega (arith, r.1), r.2)

pub Mem-at : {A : Type 0} (xs : List A) (k : ℕ) (d : A) → k < length xs → Mem (get_or xs k d) xs
Mem-at [] k d h = absurd (omega arith)
Mem-at (x ∷ xs) zero d h = inl refl
Mem-at (x ∷ xs) (suc k) d h = inr (Mem-at xs k d (omega arith))

-- ---- counts

-- 1 where a test passes
abbrev pub bit : Bool → ℕ
bit b = cond b 1 0

pub count-none : {A : Type 0} (p : A → Bool) (xs : List A) → ((x : A) → Mem x xs → p x ≡ false) → count_by p xs ≡ 0
count-none p [] h = refl
count-none p (x ∷ xs) h = count-cons p x xs ∙ rw (h x (inl refl), count-none p xs (λ y m. h y (inr m))) (omega arith)

pub count-all : {A : Type 0} (p : A → Bool) (xs : List A) → ((x : A) → Mem x xs → p x ≡ true) → count_by p xs ≡ length xs
count-all p [] h = refl
count-all p (x ∷ xs) h = count-cons p x xs ∙ rw (h x (inl refl), count-all p xs (λ y m. h y (inr m))) (omega arith)

pub count-same : {A : Type 0} (p q : A → Bool) (xs : List A) → ((x : A) → Mem x xs → p x ≡ q x) → count_by p xs ≡ count_by q xs
count-same p q [] h = refl
count-same p q (x ∷ xs) h =
    count-cons p x xs ∙ rw (h x (inl refl), count-same p q xs (λ y m. h y (inr m))) refl ∙ sym (count-cons q x xs)

pub count-split : {A : Type 0} (q a b : A → Bool) (xs : List A) → ((x : A) → Mem x xs → bit (q x) ≡ bit (a x) + bit (b x)) → count_by q xs ≡ count_by a xs + count_by b xs
count-split q a b [] h = omega arith
count-split q a b (x ∷ xs) h =
    omega (arith, count-cons q x xs, count-cons a x xs, count-cons b x xs, h x (inl refl), count-split q a b xs (λ y m. h y (inr m)))

pub count-kept : {A : Type 0} (p q : A → Bool) (xs : List A) → ((x : A) → p x ≡ true → q x ≡ true) → count_by p (filter q xs) ≡ count_by p xs
count-kept p q [] h = refl
count-kept {A} p q (x ∷ xs) h = go (q x) refl (count-kept p q xs h)
  where
    dropped : (b : Bool) → p x ≡ b → q x ≡ false → bit (p x) ≡ 0
    dropped true e f = absurd (false≢true (sym f ∙ h x e))
    dropped false e f = rw e refl

    go : (b : Bool) → q x ≡ b → count_by p (filter q xs) ≡ count_by p xs → count_by p (cond b (x ∷ filter q xs) (filter q xs)) ≡ count_by p (x ∷ xs)
    go true e ih = count-cons p x (filter q xs) ∙ ap (λ n. bit (p x) + n) ih ∙ sym (count-cons p x xs)
    go false e ih = ih ∙ omega (arith, count-cons p x xs, dropped (p x) refl e)

pub same-false : (x y : List ℕ) → (x ≡ y → ⊥) → same x y ≡ false
same-false x y h = go (same x y) refl
  where
    go : (b : Bool) → same x y ≡ b → b ≡ false
    go true e = absurd (h (same-true x y e))
    go false e = refl

-- a list stands once among the different ones
pub once : (p : List ℕ) (ns : List (List ℕ)) → Mem p ns → count_by (same p) (different ns) ≡ 1
once p [] h = absurd h
once p (x ∷ ns) h = count-cons (same p) x (filter (λ y. not (same x y)) (different ns)) ∙ go (same p x) refl h (once p ns)
  where
    gone : p ≡ x → (m : List ℕ) → Mem m (filter (λ y. not (same x y)) (different ns)) → same p m ≡ false
    gone e m h =
        same-false p m (λ q. false≢true (sym (ap not (same-self x)) ∙ subst (λ (z : List ℕ). not (same x z) ≡ true) (sym q ∙ e) (Mem-of_filter (λ y. not (same x y)) m (different ns) h).1))

    stays : same p x ≡ false → (m : List ℕ) → same p m ≡ true → not (same x m) ≡ true
    stays e m q = ap not (same-false x m (λ u. false≢true (sym e ∙ subst (λ (z : List ℕ). same p z ≡ true) (sym u) q)))

    rest : same p x ≡ false → Mem p (x ∷ ns) → Mem p ns
    rest e (inl q) = absurd (false≢true (sym e ∙ subst (λ (z : List ℕ). same p z ≡ true) (sym q) (same-self p)))
    rest e (inr m) = m

    go : (b : Bool) → same p x ≡ b → Mem p (x ∷ ns) → (Mem p ns → count_by (same p) (different ns) ≡ 1) → bit b + count_by (same p) (filter (λ y. not (same x y)) (different ns)) ≡ 1
    go true e m ih = omega (arith, count-none (same p) (filter (λ y. not (same x y)) (different ns)) (gone (same-true p x e)))
    go false e m ih = omega (arith, count-kept (same p) (λ y. not (same x y)) (different ns) (stays e), ih (rest e m))

-- ---- ranks

-- not lower either way: the first is not greater
pub not_lower : (x y : List ℕ) → lower x y ≡ true → lower y x ≡ false
not_lower x y h = go (lower y x) refl
  where
    go : (b : Bool) → lower y x ≡ b → b ≡ false
    go true e = absurd (false≢true (sym (lower-irrefl x) ∙ lower-trans x y x h e))
    go false e = refl

-- a list that is not above p is p or lower
pub upto : (m p : List ℕ) → lower p m ≡ false → bit (lower m p) + bit (same p m) ≡ 1
upto m p h = go (lower-cases m p)
  where
    go : (lower m p ≡ true) ⊎ ((m ≡ p) ⊎ (lower p m ≡ true)) → bit (lower m p) + bit (same p m) ≡ 1
    go (inl l) = rw (l, same-false p m (λ e. false≢true (sym (lower-irrefl p) ∙ subst (λ (z : List ℕ). lower z p ≡ true) (sym e) l))) refl
    go (inr (inl e)) = subst (λ (z : List ℕ). bit (lower z p) + bit (same p z) ≡ 1) (sym e) (rw (lower-irrefl p, same-self p) refl)
    go (inr (inr l)) = absurd (false≢true (sym h ∙ l))

pub above : (m p n : List ℕ) → lower p n ≡ true → lower m n ≡ false → bit (lower m p) + bit (same p m) ≡ 0
above m p n up h = go (lower m p) refl (same p m) refl
  where
    go : (a : Bool) → lower m p ≡ a → (b : Bool) → same p m ≡ b → bit a + bit b ≡ 0
    go true e b f = absurd (false≢true (sym h ∙ lower-trans m p n e up))
    go false e true f = absurd (false≢true (sym h ∙ subst (λ (z : List ℕ). lower z n ≡ true) (same-true p m f) up))
    go false e false f = refl

pub below : (m p n : List ℕ) → lower p n ≡ true → lower p m ≡ false → lower m n ≡ true
below m p n up h = go (lower-cases m p)
  where
    go : (lower m p ≡ true) ⊎ ((m ≡ p) ⊎ (lower p m ≡ true)) → lower m n ≡ true
    go (inl l) = lower-trans m p n l up
    go (inr (inl e)) = subst (λ (z : List ℕ). lower z n ≡ true) (sym e) up
    go (inr (inr l)) = absurd (false≢true (sym h ∙ l))

-- where no list stands between p and n, the rank of n is one more than that of p
pub rank-next : (ns : List (List ℕ)) (p n : List ℕ) → count_by (same p) ns ≡ 1 → lower p n ≡ true → ((m : List ℕ) → Mem m ns → (lower p m ≡ false) ⊎ (lower m n ≡ false)) → rank ns n ≡ rank ns p + 1
rank-next ns p n one up between = count-split (λ m. lower m n) (λ m. lower m p) (same p) ns (λ m h. go m (between m h)) ∙ ap (λ k. rank ns p + k) one
  where
    go : (m : List ℕ) → (lower p m ≡ false) ⊎ (lower m n ≡ false) → bit (lower m n) ≡ bit (lower m p) + bit (same p m)
    go m (inl h) = rw (below m p n up h) (sym (upto m p h))
    go m (inr h) = rw h (sym (above m p n up h))

-- the rank of the greatest list is the number of the others
pub rank-last : (ns : List (List ℕ)) (p : List ℕ) → count_by (same p) ns ≡ 1 → ((m : List ℕ) → Mem m ns → lower p m ≡ false) → length ns ≡ rank ns p + 1
rank-last ns p one top =
    sym (count-all (λ _. true) ns (λ m h. refl)) ∙ count-split (λ _. true) (λ m. lower m p) (same p) ns (λ m h. sym (upto m p (top m h))) ∙ ap (λ k. rank ns p + k) one
