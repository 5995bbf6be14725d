-- Counts by places in sorted numbers.
use Rattle.std.specs.Int.Signed.{le_z}
use Rattle.std.specs.List.Sorted.{IsPartitionedBy, IsPartitionPoint, IsPermutation, IsSorted}
use Rattle.std.specs.Ordering.{int_cmp, int_eq, is_eq, is_lt}
use Rattle.std.proofs.Common.{Less, Equal, Greater, ◌≡◌, ℕ, zero, suc, ◌+◌, ◌-◌, ◌<◌, ◌≤◌, List, [], ◌∷◌, ◌++◌, map, length, get_or, set, take, drop, replicate, Bool, true, false, cond, not, leb, ltb, ℤ, pos, negsuc, int_lt, sym, refl, ap, ap₂, ◌∙◌, subst, arith, count_by}
use Rattle.std.proofs.lemmas.Bool.{false≢true}
use Rattle.std.proofs.lemmas.Bool.Decides.{nat_tests, Decides-int_eq}
use Rattle.std.proofs.lemmas.Cmp.{int_cmp_total}
use Rattle.std.proofs.lemmas.List.{get_or_default, get_or-replicate, get_or-set_other, get_or-set_same, length-replicate, length-set, length-take-le, map_more, take_all}
use Rattle.std.proofs.lemmas.List.Sorted.{ranks_by, sorted_far, sum_by-IsPermutation}
use Rattle.std.proofs.lemmas.List.Sums.{count_by-le-length}
use Rattle.us_format.proofs.Counting.{count-cons}
use Rattle.us_query.specs.Counts.{AreCounts, below, ranks, ranks_after, times}
use Rattle.us_query.proofs.EntryCounts.{count-front, count-more, ranks-next}

-- ---- the order of numbers

lt-other : (a b : ℕ) → ltb a b ≡ true → ltb b a ≡ false
lt-other a b h = grind (arith, nat_tests)

lt-chain : (a b c : ℕ) → ltb b a ≡ false → ltb c b ≡ false → ltb c a ≡ false
lt-chain a b c h k = grind (arith, nat_tests)

lt-neither : (a b : ℕ) → ltb a b ≡ false → ltb b a ≡ false → a ≡ b
lt-neither a b h k = grind (arith, nat_tests)

less-other : (a b : ℤ) → int_lt a b ≡ true → int_lt b a ≡ false
less-other (pos a) (pos b) h = lt-other a b h
less-other (pos a) (negsuc b) h = absurd (cc)
less-other (negsuc a) (pos b) h = refl
less-other (negsuc a) (negsuc b) h = lt-other b a h

-- a isn't above b, b isn't above c
less-chain : (a b c : ℤ) → int_lt b a ≡ false → int_lt c b ≡ false → int_lt c a ≡ false
less-chain (pos a) (pos b) (pos c) h k = lt-chain a b c h k
less-chain (pos a) (pos b) (negsuc c) h k = absurd (cc)
less-chain (pos a) (negsuc b) c h k = absurd (cc)
less-chain (negsuc a) (pos b) (pos c) h k = refl
less-chain (negsuc a) (pos b) (negsuc c) h k = absurd (cc)
less-chain (negsuc a) (negsuc b) (pos c) h k = refl
less-chain (negsuc a) (negsuc b) (negsuc c) h k = lt-chain c b a k h

less-neither : (a b : ℤ) → int_lt a b ≡ false → int_lt b a ≡ false → a ≡ b
less-neither (pos a) (pos b) h k = ap pos (lt-neither a b h k)
less-neither (pos a) (negsuc b) h k = absurd (cc)
less-neither (negsuc a) (pos b) h k = absurd (cc)
less-neither (negsuc a) (negsuc b) h k = ap negsuc (lt-neither a b k h)

not-above : (a b : ℕ) → leb a b ≡ not (ltb b a)
not-above a b = grind (arith, nat_tests)

pub at-most : (a b : ℤ) → le_z a b ≡ not (int_lt b a)
at-most (pos a) (pos b) = not-above a b
at-most (pos a) (negsuc b) = refl
at-most (negsuc a) (pos b) = refl
at-most (negsuc a) (negsuc b) = not-above b a

same-told : (a b : ℤ) → int_eq a b ≡ true → a ≡ b
same-told a b e = (Decides-int_eq a b).0 e

same-yes : (a b : ℤ) → a ≡ b → int_eq a b ≡ true
same-yes a b e = (Decides-int_eq a b).1 e

-- one number against another, as a count
three-ways : (a b : ℤ) → cond (not (int_lt b a)) 1 0 ≡ cond (int_lt a b) 1 0 + cond (int_eq a b) 1 0
three-ways a b = go (int_lt a b) (int_lt b a) refl refl
  where
    go : (s t : Bool) → int_lt a b ≡ s → int_lt b a ≡ t → cond (not t) 1 0 ≡ cond s 1 0 + cond (is_eq (cond s Less (cond t Greater Equal))) 1 0
    go true true p q = absurd (false≢true (sym (less-other a b p) ∙ q))
    go true false p q = refl
    go false true p q = refl
    go false false p q = refl

-- ---- counts

count-where : {A : Type 0} (p q : A → Bool) (xs : List A) → ((x : A) → p x ≡ true → q x ≡ true) → count_by p xs ≤ count_by q xs
count-where p q [] h = omega arith
count-where p q (x ∷ xs) h = omega (arith, count-cons p x xs, count-cons q x xs, count-where p q xs h, one (p x) (q x) (h x))
  where
    one : (s t : Bool) → (s ≡ true → t ≡ true) → cond s 1 0 ≤ cond t 1 0
    one true true f = omega arith
    one true false f = absurd (false≢true (f refl))
    one false t f = omega arith

count-here : {A : Type 0} (p : A → Bool) (xs : List A) (k : ℕ) (d : A) → k < length xs → p (get_or xs k d) ≡ true → 0 < count_by p xs
count-here p [] k d l h = absurd (omega (arith, l))
count-here p (x ∷ xs) zero d l h = omega (arith, count-cons p x xs, ap {B = ℕ} (λ (b : Bool). cond b 1 0) h)
count-here p (x ∷ xs) (suc k) d l h = omega (arith, count-cons p x xs, count-here p xs k d (omega (arith, l)) h)

pub up-to : (xs : List ℤ) (q : ℤ) → count_by (λ y. not (int_lt q y)) xs ≡ below xs q + times xs q
up-to [] q = refl
up-to (x ∷ xs) q =
    omega (arith, count-cons (λ y. not (int_lt q y)) x xs, count-cons (λ y. int_lt y q) x xs, count-cons (λ y. int_eq y q) x xs, up-to xs q, three-ways x q)

pub below-inside : (xs : List ℤ) (q : ℤ) → below xs q + times xs q ≤ length xs
below-inside xs q = omega (arith, up-to xs q, count_by-le-length (λ y. not (int_lt q y)) xs)

below-apart : (xs : List ℤ) (q r : ℤ) → int_lt q r ≡ true → below xs q + times xs q ≤ below xs r
below-apart xs q r h = omega (arith, up-to xs q, count-where (λ y. not (int_lt q y)) (λ y. int_lt y r) xs (λ y k. go y (int_lt q y) (int_lt y r) refl refl k))
  where
    go : (y : ℤ) (s t : Bool) → int_lt q y ≡ s → int_lt y r ≡ t → not s ≡ true → t ≡ true
    go y s true p e k = refl
    go y true false p e k = absurd (false≢true k)
    go y false false p e k = absurd (false≢true (sym (less-chain r y q e p) ∙ h))

pub below-told : (xs : List ℤ) (q r : ℤ) → 0 < times xs q → 0 < times xs r → below xs q ≡ below xs r → q ≡ r
below-told xs q r h k e = go (int_lt q r) (int_lt r q) refl refl
  where
    go : (s t : Bool) → int_lt q r ≡ s → int_lt r q ≡ t → q ≡ r
    go true t p m = absurd (omega (arith, below-apart xs q r p, h, e))
    go false true p m = absurd (omega (arith, below-apart xs r q m, k, e))
    go false false p m = less-neither q r p m

pub times-here : (xs : List ℤ) (k : ℕ) (d : ℤ) → k < length xs → 0 < times xs (get_or xs k d)
times-here xs k d l = count-here (λ y. int_eq y (get_or xs k d)) xs k d l (same-yes (get_or xs k d) (get_or xs k d) refl)

pub below-moved : (xs ys : List ℤ) (q : ℤ) → IsPermutation xs ys → below ys q ≡ below xs q
below-moved xs ys q h = sum_by-IsPermutation (λ y. cond (int_lt y q) 1 0) xs ys h

pub times-moved : (xs ys : List ℤ) (q : ℤ) → IsPermutation xs ys → times ys q ≡ times xs q
times-moved xs ys q h = sum_by-IsPermutation (λ y. cond (int_eq y q) 1 0) xs ys h

-- ---- searches

module _ (xs : List ℤ) (sorted : IsSorted int_cmp xs) where
  rising : (i j : ℕ) (d : ℤ) → i ≤ j → j < length xs → int_lt (get_or xs j d) (get_or xs i d) ≡ false
  rising i j d l m = go (int_lt (get_or xs j d) (get_or xs i d)) refl (sorted_far (λ x y. is_lt (int_cmp x y)) (ranks_by int_cmp_total (λ (x : ℤ). x)) xs sorted i j d l m)
    where
      go : (t : Bool) → int_lt (get_or xs j d) (get_or xs i d) ≡ t → is_lt (int_cmp (get_or xs j d) (get_or xs i d)) ≡ false → t ≡ false
      go true e h = absurd (false≢true (sym h ∙ ap (λ (b : Bool). is_lt (cond b Less (cond (int_lt (get_or xs i d) (get_or xs j d)) Greater Equal))) e))
      go false e h = refl

  pub below-parted : (q : ℤ) → IsPartitionedBy (λ y. int_lt y q) xs
  below-parted q i j d l m h = go (int_lt (get_or xs i d) q) refl
    where
      go : (t : Bool) → int_lt (get_or xs i d) q ≡ t → t ≡ true
      go true e = refl
      go false e = absurd (false≢true (sym (less-chain q (get_or xs i d) (get_or xs j d) e (rising i j d l m)) ∙ h))

  -- a number that is no higher than the one at a place, and above those before it
  pub first-place : (q : ℤ) (k : ℕ) (d : ℤ) → k < length xs → ((i : ℕ) → i < k → int_lt (get_or xs i d) q ≡ true) → not (int_lt (get_or xs k d) q) ≡ true → k ≡ below xs q
  first-place q k d l low e = sym (count-front (λ y. int_lt y q) xs k d (omega (arith, l)) low high)
    where
      high : (i : ℕ) → k ≤ i → i < length xs → int_lt (get_or xs i d) q ≡ false
      high i m n = go (int_lt (get_or xs k d) q) refl e
        where
          go : (t : Bool) → int_lt (get_or xs k d) q ≡ t → not t ≡ true → int_lt (get_or xs i d) q ≡ false
          go true p h = absurd (false≢true h)
          go false p h = less-chain q (get_or xs k d) (get_or xs i d) p (rising k i d m n)

  pub first-place-behind : (q : ℤ) (k : ℕ) (d : ℤ) → 0 < k → k < length xs → int_lt (get_or xs (k - 1) d) q ≡ true → not (int_lt (get_or xs k d) q) ≡ true → k ≡ below xs q
  first-place-behind q k d some l h e = first-place q k d l (λ i m. below-parted q i (k - 1) d (omega (arith, m)) (omega (arith, l)) h) e

pub point-counts : (p : ℤ → Bool) (xs : List ℤ) (n : ℕ) → n ≤ length xs → IsPartitionPoint (λ y. p y ≡ true) (λ y. p y ≡ false) xs n → n ≡ count_by p xs
point-counts p xs n l h = sym (count-front p xs n (pos 0) l (λ i k. h.0 i (pos 0) (omega arith) k) (λ i k m. h.1 i (pos 0) k m))

-- ---- steps of the loops

pub counting-none : (xs : List ℤ) (n : ℕ) → n ≡ length xs → AreCounts xs [] (replicate n 0)
counting-none xs n e = record {
  long = length-replicate n 0 ∙ e;
  each = λ q h. get_or-replicate n (below xs q) 0 0 (omega (arith, e, h, below-inside xs q));
}

pub counting-end : (xs : List ℤ) (k : ℕ) (counts : List ℕ) → length xs ≤ k → AreCounts xs (take k xs) counts → AreCounts xs xs counts
counting-end xs k counts l h = subst (λ (part : List ℤ). AreCounts xs part counts) (take_all k xs l) h

module _ (xs ys : List ℤ) (moved : IsPermutation xs ys) (k : ℕ) (d : ℤ) (l : k < length xs) (counts : List ℕ) (place : ℕ) (at : place ≡ below ys (get_or xs k d)) where
  abbrev here : ℤ
  here = get_or xs k d

  place-is : place ≡ below xs here
  place-is = at ∙ below-moved xs ys here moved

  module _ (part : List ℤ) (h : AreCounts xs part counts) where
    pub counting-inside : place < length counts
    counting-inside = omega (arith, place-is, h.long, times-here xs k d l, below-inside xs here)

    pub counting-value : (v : ℕ) (e : ℕ) → v ≡ get_or counts place e → v ≡ times part here
    counting-value v e q = q ∙ get_or_default counts place e 0 counting-inside ∙ ap (λ (n : ℕ). get_or counts n 0) place-is ∙ h.each here (times-here xs k d l)

  pub totals-next : (old new : List ℕ) (v : ℕ) (e : ℕ) → AreCounts xs xs counts → v ≡ get_or counts place e → new ≡ old ++ v ∷ [] → old ≡ map (times xs) (take k xs) → new ≡ map (times xs) (take (k + 1) xs)
  totals-next old new v e h q a i =
      a ∙ ap₂ (λ (z : List ℕ) (n : ℕ). z ++ n ∷ []) i (counting-value xs h v e q) ∙ sym (map_more (times xs) xs k d l)

  module _ (h : AreCounts xs (take k xs) counts) (v : ℕ) (e : ℕ) (q : v ≡ get_or counts place e) where
    value : v ≡ times (take k xs) here
    value = counting-value (take k xs) h v e q

    pub counting-bound : v ≤ k
    counting-bound = omega (arith, value, count_by-le-length (λ y. int_eq y here) (take k xs), length-take-le k xs (omega (arith, l)))

    pub counting-next : AreCounts xs (take (k + 1) xs) (set counts place (v + 1))
    counting-next = record {
      long = length-set counts place (v + 1) ∙ h.long;
      each = λ r m. go r m (int_eq here r) refl;
    }
      where
        more : (r : ℤ) → times (take (k + 1) xs) r ≡ times (take k xs) r + cond (int_eq here r) 1 0
        more r = count-more (λ y. int_eq y r) xs k d l

        go : (r : ℤ) → 0 < times xs r → (b : Bool) → int_eq here r ≡ b → get_or (set counts place (v + 1)) (below xs r) 0 ≡ times (take (k + 1) xs) r
        go r m true p =
            let same : here ≡ r = same-told here r p in
            ap (λ (n : ℕ). get_or (set counts place (v + 1)) n 0) (ap (λ (z : ℤ). below xs z) (sym same) ∙ sym place-is)
            ∙ get_or-set_same counts place (v + 1) 0 (counting-inside (take k xs) h)
            ∙ ap₂ (λ (n : ℕ) (b : Bool). n + cond b 1 0) (value ∙ ap (λ (z : ℤ). times (take k xs) z) same) (sym p)
            ∙ sym (more r)
        go r m false p =
            get_or-set_other counts place (below xs r) (v + 1) 0 (λ s. false≢true (sym p ∙ same-yes here r (below-told xs here r (times-here xs k d l) m (sym place-is ∙ sym s))))
            ∙ h.each r m
            ∙ sym (more r ∙ ap (λ (b : Bool). times (take k xs) r + cond b 1 0) p ∙ plus-none (times (take k xs) r))
          where
            plus-none : (n : ℕ) → n + 0 ≡ n
            plus-none n = omega arith

    pub ranking-next : (done new : List ℕ) → new ≡ done ++ v ∷ [] → done ++ ranks_after (take k xs) (drop k xs) ≡ ranks xs → new ++ ranks_after (take (k + 1) xs) (drop (k + 1) xs) ≡ ranks xs
    ranking-next done new a i = ranks-next xs k d done new (ranks xs) v l a value i
