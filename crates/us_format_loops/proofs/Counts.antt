-- Counts, and lists in which each item stands once.
use Rattle.std.proofs.Common.{◌≡◌, ℕ, zero, suc, ◌+◌, ◌-◌, ◌<◌, ◌≤◌, ◌⊎◌, List, [], ◌∷◌, map, length, Bool, true, false, cond, not, eqb, ltb, sym, refl, ap, ◌∙◌, subst, inl, inr, arith, count_by, filter, lt-ltb, le-ltb, eq-eqb}
use Rattle.std.proofs.lemmas.Bool.{and_from, cases_order, ne_eqb, false≢true}
use Rattle.std.proofs.lemmas.List.Sums.{count_by-le-length}
use Rattle.us_format.proofs.Order.{Mem, Mem-of_map, lower-cases, lower-irrefl, lower-trans}
use Rattle.us_format.proofs.Counting.{count-cons, count-le}
use Rattle.us_format.proofs.Climb.{rank-lt}
use Rattle.us_format.proofs.Collect.{Distinct, RowMajor, earlier-irrefl}
use Rattle.us_format.specs.Lists.{different, lower, rank, same}
use Rattle.us_format.specs.Matrix.{Entry}

pub count-all : {A : Type 0} (p : A → Bool) (xs : List A) → ((x : A) → Mem x xs → p x ≡ true) → count_by p xs ≡ length xs
count-all p [] h = refl
count-all p (x ∷ xs) h = rw (count-cons p x xs, h x (inl refl)) (omega (arith, count-all p xs (λ y m. h y (inr m))))

pub count-none : {A : Type 0} (p : A → Bool) (xs : List A) → ((x : A) → Mem x xs → p x ≡ false) → count_by p xs ≡ 0
count-none p [] h = refl
count-none p (x ∷ xs) h = rw (count-cons p x xs, h x (inl refl)) (omega (arith, count-none p xs (λ y m. h y (inr m))))

pub Mem-of_filter : {A : Type 0} (p : A → Bool) (x : A) (xs : List A) → Mem x (filter p xs) → Mem x xs × (p x ≡ true)
Mem-of_filter p x [] h = absurd h
Mem-of_filter {A} p x (y ∷ ys) h = go (p y) refl h (Mem-of_filter p x ys)
  where
    go : (b : Bool) → p y ≡ b → Mem x (cond b (y ∷ filter p ys) (filter p ys)) → (Mem x (filter p ys) → Mem x ys × (p x ≡ true)) → Mem x (y ∷ ys) × (p x ≡ true)
    go true e (inl q) ih = (inl q, subst (λ (z : A). p z ≡ true) q e)
    go true e (inr m) ih = let r = ih m in (inr r.0, r.1)
    go false e m ih = let r = ih m in (inr r.0, r.1)

pub Mem-of_different : (x : List ℕ) (xs : List (List ℕ)) → Mem x (different xs) → Mem x xs
Mem-of_different x [] h = h
Mem-of_different x (y ∷ ys) (inl e) = inl e
Mem-of_different x (y ∷ ys) (inr h) = inr (Mem-of_different x ys (Mem-of_filter (λ z. not (same y z)) x (different ys) h).0)

-- ---- each item once

pub same-self : (x : List ℕ) → same x x ≡ true
same-self [] = refl
same-self (x ∷ xs) = and_from _ _ (eq-eqb x x refl) (same-self xs)

pub distinct-filter : {A : Type 0} (p : A → Bool) (xs : List A) → Distinct xs → Distinct (filter p xs)
distinct-filter p [] d = tt
distinct-filter {A} p (x ∷ xs) d = go (p x) (distinct-filter p xs d.1)
  where
    go : (b : Bool) → Distinct (filter p xs) → Distinct (cond b (x ∷ filter p xs) (filter p xs))
    go true ih = ((λ m. d.0 (Mem-of_filter p x xs m).0), ih)
    go false ih = ih

pub different-distinct : (xs : List (List ℕ)) → Distinct (different xs)
different-distinct [] = tt
different-distinct (x ∷ xs) = (
  (λ m. false≢true (sym (ap not (same-self x)) ∙ (Mem-of_filter (λ y. not (same x y)) x (different xs) m).1)),
  distinct-filter (λ y. not (same x y)) (different xs) (different-distinct xs),
)

pub distinct-map : {A B : Type 0} (f : A → B) (xs : List A) → ((a b : A) → Mem a xs → Mem b xs → f a ≡ f b → a ≡ b) → Distinct xs → Distinct (map f xs)
distinct-map f [] one d = tt
distinct-map {A} f (x ∷ xs) one d = (
  (λ m. let r = Mem-of_map f (f x) xs m in d.0 (subst (λ (z : A). Mem z xs) (one r.0 x (inr r.1) (inl refl) r.2) r.1)),
  distinct-map f xs (λ a b ma mb. one a b (inr ma) (inr mb)) d.1,
)

pub distinct-entries : (m : List Entry) → RowMajor m → Distinct m
distinct-entries [] r = tt
distinct-entries (x ∷ xs) r = ((λ k. earlier-irrefl x (r.0 x k)), distinct-entries xs r.1)

-- ---- ranks

-- where each list stands once, each number below the length is the rank of one
pub ranks-all : (ns : List (List ℕ)) → Distinct ns → (x : ℕ) → x < length ns → (m : List ℕ) × Mem m ns × (rank ns m ≡ x)
ranks-all [] d x h = absurd (omega (arith, h))
ranks-all (a ∷ ns) d x h = go (cases_order x (rank ns a)) (ranks-all ns d.1)
  where
    first : (m : List ℕ) → rank (a ∷ ns) m ≡ cond (lower a m) 1 0 + rank ns m
    first m = count-cons (λ k. lower k m) a ns

    lower-up : (m : List ℕ) → lower a m ≡ true → rank ns a ≤ rank ns m
    lower-up m l = count-le (λ k. lower k a) (λ k. lower k m) ns (λ k _ e. lower-trans k a m e l)

    before : (m : List ℕ) → Mem m ns → rank ns m ≡ x → x < rank ns a → (b : Bool) → lower a m ≡ b → rank (a ∷ ns) m ≡ x
    before m k e l true q = absurd (omega (arith, lower-up m q, e, l))
    before m k e l false q = first m ∙ rw q (omega (arith, e))

    behind : (m : List ℕ) → Mem m ns → rank ns m + 1 ≡ x → rank ns a < x → rank (a ∷ ns) m ≡ x
    behind m k e l = pick (lower-cases a m)
      where
        pick : ((lower a m ≡ true) ⊎ ((a ≡ m) ⊎ (lower m a ≡ true))) → rank (a ∷ ns) m ≡ x
        pick (inl q) = first m ∙ rw q (omega (arith, e))
        pick (inr (inl q)) = absurd (d.0 (subst (λ (z : List ℕ). Mem z ns) (sym q) k))
        pick (inr (inr q)) = absurd (omega (arith, rank-lt ns m a k q, e, l))

    go : ((x ≡ rank ns a) ⊎ ((x < rank ns a) ⊎ (rank ns a < x))) → ((y : ℕ) → y < length ns → (m : List ℕ) × Mem m ns × (rank ns m ≡ y)) → (m : List ℕ) × Mem m (a ∷ ns) × (rank (a ∷ ns) m ≡ x)
    go (inl e) ih = (a, inl refl, first a ∙ rw (lower-irrefl a) (omega (arith, e)))
    go (inr (inl l)) ih =
        let r = ih x (omega (arith, l, count_by-le-length (λ k. lower k a) ns)) in (r.0, inr r.1, before r.0 r.1 r.2 l (lower a r.0) refl)
    go (inr (inr l)) ih = let r = ih (x - 1) (omega (arith, l, h)) in (r.0, inr r.1, behind r.0 r.1 (omega (arith, r.2, l)) l)

-- ---- numbers that are all those below a bound, each once

pub count-split : (k : ℕ) (xs : List ℕ) → count_by (λ y. ltb y (suc k)) xs ≡ count_by (λ y. ltb y k) xs + count_by (λ y. eqb y k) xs
count-split k [] = refl
count-split k (x ∷ xs) =
    count-cons (λ y. ltb y (suc k)) x xs ∙ omega (arith, one (cases_order x k), count-split k xs, count-cons (λ y. ltb y k) x xs, count-cons (λ y. eqb y k) x xs)
  where
    one : ((x ≡ k) ⊎ ((x < k) ⊎ (k < x))) → cond (ltb x (suc k)) 1 0 ≡ cond (ltb x k) 1 0 + cond (eqb x k) 1 0
    one (inl e) = rw (lt-ltb x (suc k) (omega arith), le-ltb x k (omega arith), eq-eqb x k e) refl
    one (inr (inl l)) = rw (lt-ltb x (suc k) (omega arith), lt-ltb x k l, ne_eqb x k (λ e. omega arith)) refl
    one (inr (inr l)) = rw (le-ltb x (suc k) (omega arith), le-ltb x k (omega arith), ne_eqb x k (λ e. omega arith)) refl

pub count-once : (k : ℕ) (xs : List ℕ) → Distinct xs → Mem k xs → count_by (λ y. eqb y k) xs ≡ 1
count-once k [] d m = absurd m
count-once k (x ∷ xs) d (inl e) =
    count-cons (λ y. eqb y k) x xs
    ∙ rw (eq-eqb x k e, count-none (λ y. eqb y k) xs (λ y my. ne_eqb y k (λ q. d.0 (subst (λ (z : ℕ). Mem z xs) (q ∙ sym e) my)))) refl
count-once k (x ∷ xs) d (inr m) =
    count-cons (λ y. eqb y k) x xs ∙ rw (ne_eqb x k (λ q. d.0 (subst (λ (z : ℕ). Mem z xs) (sym q) m)), count-once k xs d.1 m) refl

pub count-lower : (xs : List ℕ) → Distinct xs → (k : ℕ) → ((y : ℕ) → y < k → Mem y xs) → count_by (λ y. ltb y k) xs ≡ k
count-lower xs d zero all = count-none (λ y. ltb y 0) xs (λ y _. le-ltb y 0 (omega arith))
count-lower xs d (suc k) all =
    count-split k xs ∙ omega (arith, count-lower xs d k (λ y l. all y (omega (arith, l))), count-once k xs d (all k (omega arith)))

pub count-map : {A B : Type 0} (p : B → Bool) (f : A → B) (xs : List A) → count_by p (map f xs) ≡ count_by (λ x. p (f x)) xs
count-map p f [] = refl
count-map p f (x ∷ xs) = count-cons p (f x) (map f xs) ∙ omega (arith, count-map p f xs, count-cons (λ y. p (f y)) x xs)
