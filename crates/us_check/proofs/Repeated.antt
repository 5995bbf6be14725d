-- The first coordinate that comes twice, from places in order.
use Rattle.std.specs.List.Sorted.{IsPermutation}
use Rattle.std.specs.Ordering.{nat_cmp, is_lt, ordering_then}
use Rattle.std.proofs.Common.{Ordering, lt-ltb, le-ltb, eq-eqb, ◌≡◌, ℕ, zero, suc, ◌+◌, ◌-◌, ◌*◌, ◌^◌, ◌<◌, ◌≤◌, ◌==◌, ◌⊎◌, min, List, [], ◌∷◌, ◌++◌, length, take, get_or, Bool, true, false, cond, pos, sym, refl, ap, ◌∙◌, subst, inl, inr, arith, Option, Some, None, All, sum_by}
use Rattle.std.proofs.lemmas.Bool.{cases_Bool, cases_order, cases_eq, false≢true}
use Rattle.std.proofs.lemmas.Bool.Decides.{nat_tests}
use Rattle.std.proofs.Math.ListN.{length-map}
use Rattle.std.proofs.lemmas.List.{get_or_default, take_more, map-append, length-take-le}
use Rattle.std.proofs.lemmas.List.Elements.{All-head, All-tail}
use Rattle.std.proofs.lemmas.List.Sums.{sum_by-cons}
use Rattle.std.proofs.lemmas.List.Sorted.{IsPermutation-sym, Contains-permutation, sum_by-IsPermutation}
use Rattle.us_climb.specs.declared.found.Found.{Found}
use Rattle.us_format.specs.Matrix.{Entry}
use Rattle.us_format.specs.Program.{plain_entry}
use Rattle.us_format.proofs.Order.{Mem}
use Rattle.us_format.proofs.Members.{contains-Mem, Mem-contains}
use Rattle.us_check.specs.declared.repeats.Place.{Place}
use Rattle.us_check.specs.Repeats.{found_entries, entry_at, StandTogether, IsRepeat, IsFirstRepeat, walked, places_from, place_at, IsLeastIndex, lowest, looked_at}

-- ---- the places

pub places-more : (k : ℕ) (es : List Entry) (e : Entry) → places_from k (es ++ e ∷ []) ≡ places_from k es ++ record { at = walked e; index = k + length es } ∷ []
places-more k [] e = ap (λ (n : ℕ). record { at = walked e; index = n } ∷ []) (omega arith)
places-more k (x ∷ es) e =
    ap (λ (l : List Place). record { at = walked x; index = k } ∷ l)
    (places-more (suc k) es e ∙ ap (λ (n : ℕ). places_from (suc k) es ++ record { at = walked e; index = n } ∷ []) (omega arith))

-- ---- the least index

pub least-none : (ps : List Place) → IsLeastIndex ps 1 None
least-none ps n l e = omega (arith, l)

pub least-end : (ps : List Place) (k : ℕ) (least : Option ℕ) → length ps ≤ k → (k ≤ 1) ⊎ (k ≤ length ps) → IsLeastIndex ps k least → IsLeastIndex ps (length ps) least
least-end ps k None a b h = λ n l e. h n (omega (arith, l)) e
least-end ps k (Some x) a b h = (first b h.0, λ n l e. h.1 n (omega (arith, l)) e)
  where
    first : (k ≤ 1) ⊎ (k ≤ length ps) → ((n : ℕ) × (n + 1 < k) × ((place_at ps n).at ≡ (place_at ps (n + 1)).at) × ((place_at ps (n + 1)).index ≡ x))
        → (n : ℕ) × (n + 1 < length ps) × ((place_at ps n).at ≡ (place_at ps (n + 1)).at) × ((place_at ps (n + 1)).index ≡ x)
    first (inl c) (n, l, e, i) = absurd (omega (arith, c, l))
    first (inr c) (n, l, e, i) = (n, omega (arith, c, l), e, i)

last-or-before : (n j : ℕ) → n + 1 < j + 1 + 1 → (n ≡ j) ⊎ (n + 1 < j + 1)
last-or-before n j l = go (cases_eq n j)
  where
    go : ((n ≡ j) ⊎ (n ≡ j → ⊥)) → (n ≡ j) ⊎ (n + 1 < j + 1)
    go (inl e) = inl e
    go (inr e) = inr (omega (arith, l, e))

same-number : (a b : ℕ) → (a == b) ≡ true → a ≡ b
same-number a b h = grind (arith, nat_tests)

other-number : (a b : ℕ) → (a == b) ≡ false → a ≡ b → ⊥
other-number a b h e = grind (arith, nat_tests)

-- the neighbours j and j + 1 don't matter where they differ
least-kept : (ps : List Place) (j : ℕ) (least : Option ℕ) → ((place_at ps j).at ≡ (place_at ps (j + 1)).at → ⊥) → IsLeastIndex ps (j + 1) least → IsLeastIndex ps (j + 1 + 1) least
least-kept ps j None differ h = bound
  where
    bound : (n : ℕ) → n + 1 < j + 1 + 1 → (place_at ps n).at ≡ (place_at ps (n + 1)).at → ⊥
    bound n l e = go (last-or-before n j l)
      where
        go : ((n ≡ j) ⊎ (n + 1 < j + 1)) → ⊥
        go (inl q) = differ (subst (λ (x : ℕ). (place_at ps x).at ≡ (place_at ps (x + 1)).at) q e)
        go (inr q) = h n q e
least-kept ps j (Some x) differ h = ((h.0.0, omega (arith, h.0.1), h.0.2, h.0.3), bound)
  where
    bound : (n : ℕ) → n + 1 < j + 1 + 1 → (place_at ps n).at ≡ (place_at ps (n + 1)).at → x ≤ (place_at ps (n + 1)).index
    bound n l e = go (last-or-before n j l)
      where
        go : ((n ≡ j) ⊎ (n + 1 < j + 1)) → x ≤ (place_at ps (n + 1)).index
        go (inl q) = absurd (differ (subst (λ (x : ℕ). (place_at ps x).at ≡ (place_at ps (x + 1)).at) q e))
        go (inr q) = h.1 n q e

-- where they are at one place the later one's index counts
least-lower : (ps : List Place) (j : ℕ) (least : Option ℕ) → (place_at ps j).at ≡ (place_at ps (j + 1)).at → IsLeastIndex ps (j + 1) least
    → IsLeastIndex ps (j + 1 + 1) (Some (lowest least (place_at ps (j + 1)).index))
least-lower ps j None meet h = ((j, omega arith, meet, refl), bound)
  where
    bound : (n : ℕ) → n + 1 < j + 1 + 1 → (place_at ps n).at ≡ (place_at ps (n + 1)).at → (place_at ps (j + 1)).index ≤ (place_at ps (n + 1)).index
    bound n l e = go (last-or-before n j l)
      where
        go : ((n ≡ j) ⊎ (n + 1 < j + 1)) → (place_at ps (j + 1)).index ≤ (place_at ps (n + 1)).index
        go (inl q) = subst (λ (x : ℕ). (place_at ps (j + 1)).index ≤ (place_at ps (x + 1)).index) (sym q) (omega arith)
        go (inr q) = absurd (h n q e)
least-lower ps j (Some x) meet h = (first (cases_order x (place_at ps (j + 1)).index), bound)
  where
    first : ((x ≡ (place_at ps (j + 1)).index) ⊎ ((x < (place_at ps (j + 1)).index) ⊎ ((place_at ps (j + 1)).index < x)))
        → (n : ℕ) × (n + 1 < j + 1 + 1) × ((place_at ps n).at ≡ (place_at ps (n + 1)).at) × ((place_at ps (n + 1)).index ≡ min x (place_at ps (j + 1)).index)
    first (inl c) = (j, omega arith, meet, omega (arith, c))
    first (inr (inl c)) = (h.0.0, omega (arith, h.0.1), h.0.2, omega (arith, h.0.3, c))
    first (inr (inr c)) = (j, omega arith, meet, omega (arith, c))

    bound : (n : ℕ) → n + 1 < j + 1 + 1 → (place_at ps n).at ≡ (place_at ps (n + 1)).at → min x (place_at ps (j + 1)).index ≤ (place_at ps (n + 1)).index
    bound n l e = go (last-or-before n j l)
      where
        go : ((n ≡ j) ⊎ (n + 1 < j + 1)) → min x (place_at ps (j + 1)).index ≤ (place_at ps (n + 1)).index
        go (inl q) = subst (λ (y : ℕ). min x (place_at ps (j + 1)).index ≤ (place_at ps (y + 1)).index) (sym q) (omega arith)
        go (inr q) = omega (arith, h.1 n q e)

least-next : (ps : List Place) (j : ℕ) (least : Option ℕ) → IsLeastIndex ps (j + 1) least → IsLeastIndex ps (j + 1 + 1) (looked_at least (place_at ps j) (place_at ps (j + 1)))
least-next ps j least h = go (cases_Bool ((place_at ps j).at == (place_at ps (j + 1)).at))
  where
    go : (((place_at ps j).at == (place_at ps (j + 1)).at) ≡ true) ⊎ (((place_at ps j).at == (place_at ps (j + 1)).at) ≡ false)
        → IsLeastIndex ps (j + 1 + 1) (looked_at least (place_at ps j) (place_at ps (j + 1)))
    go (inl e) = subst (λ (b : Bool). IsLeastIndex ps (j + 1 + 1) (cond b (Some (lowest least (place_at ps (j + 1)).index)) least)) (sym e) (least-lower ps j least (same-number _ _ e) h)
    go (inr e) = subst (λ (b : Bool). IsLeastIndex ps (j + 1 + 1) (cond b (Some (lowest least (place_at ps (j + 1)).index)) least)) (sym e) (least-kept ps j least (other-number _ _ e) h)

pub least-more : (ps : List Place) (j k : ℕ) (least : Option ℕ) → k ≡ j + 1 → IsLeastIndex ps k least → IsLeastIndex ps (k + 1) (looked_at least (place_at ps j) (place_at ps k))
least-more ps j k least e h =
    subst (λ (n : ℕ). IsLeastIndex ps (n + 1) (looked_at least (place_at ps j) (place_at ps n))) (sym e) (least-next ps j least (subst (λ (n : ℕ). IsLeastIndex ps n least) e h))

-- ---- places in order

-- a place stands before another, or at one place with a lower index
abbrev pub Lexical : Place → Place → Type 0
Lexical p q = (p.at < q.at) ⊎ ((p.at ≡ q.at) × (p.index ≤ q.index))

abbrev pub sort_key : Place → ℕ × ℕ
sort_key p = (p.at, p.index)

lexical-trans : (p q r : Place) → Lexical p q → Lexical q r → Lexical p r
lexical-trans p q r (inl a) (inl b) = inl (omega (arith, a, b))
lexical-trans p q r (inl a) (inr b) = inl (omega (arith, a, b.0))
lexical-trans p q r (inr a) (inl b) = inl (omega (arith, a.0, b))
lexical-trans p q r (inr a) (inr b) = inr (a.0 ∙ b.0, omega (arith, a.1, b.1))

lower-first : (a b : ℕ) (o : Ordering) → a < b → is_lt (ordering_then (nat_cmp a b) o) ≡ true
lower-first a b o l = rw (lt-ltb a b l) refl

same-first : (a b : ℕ) (o : Ordering) → a ≡ b → ordering_then (nat_cmp a b) o ≡ o
same-first a b o e = rw (le-ltb a b (omega (arith, e)), eq-eqb a b e) refl

lower-last : (a b : ℕ) → a < b → is_lt (nat_cmp a b) ≡ true
lower-last a b l = rw (lt-ltb a b l) refl

-- what sorting by the pair of numbers says of neighbours
pub lexical-from : (p q : Place) → is_lt (ordering_then (nat_cmp q.at p.at) (nat_cmp q.index p.index)) ≡ false → Lexical p q
lexical-from p q h = go (cases_order p.at q.at)
  where
    ends : p.at ≡ q.at → ((p.index ≡ q.index) ⊎ ((p.index < q.index) ⊎ (q.index < p.index))) → p.index ≤ q.index
    ends e (inl x) = omega (arith, x)
    ends e (inr (inl x)) = omega (arith, x)
    ends e (inr (inr x)) = absurd (false≢true (sym h ∙ ap is_lt (same-first q.at p.at (nat_cmp q.index p.index) (sym e)) ∙ lower-last q.index p.index x))

    go : ((p.at ≡ q.at) ⊎ ((p.at < q.at) ⊎ (q.at < p.at))) → Lexical p q
    go (inl e) = inr (e, ends e (cases_order p.index q.index))
    go (inr (inl l)) = inl l
    go (inr (inr l)) = absurd (false≢true (sym h ∙ lower-first q.at p.at (nat_cmp q.index p.index) l))

-- ---- the places of entries

-- the place of the entry with this number
abbrev pub placed : List Entry → ℕ → ℕ → Place
placed es b k = record { at = walked (entry_at es k); index = b + k }

placed-from : (b : ℕ) (es : List Entry) (p : Place) → Mem p (places_from b es) → (k : ℕ) × (k < length es) × (p ≡ placed es b k)
placed-from b [] p m = absurd m
placed-from b (e ∷ es) p (inl q) = (0, omega arith, sym q ∙ ap (λ (n : ℕ). record { at = walked e; index = n }) (omega arith))
placed-from b (e ∷ es) p (inr m) =
    let r = placed-from (suc b) es p m in
    (suc r.0, omega (arith, r.1), r.2 ∙ ap (λ (n : ℕ). record { at = walked (entry_at es r.0); index = n }) (omega arith))

placed-there : (b : ℕ) (es : List Entry) (k : ℕ) → k < length es → Mem (placed es b k) (places_from b es)
placed-there b [] k l = absurd (omega (arith, l))
placed-there b (e ∷ es) zero l = inl (ap (λ (n : ℕ). record { at = walked e; index = n }) (omega arith))
placed-there b (e ∷ es) (suc k) l =
    inr (subst (λ (n : ℕ). Mem (record { at = walked (entry_at es k); index = n }) (places_from (suc b) es)) (omega arith) (placed-there (suc b) es k (omega (arith, l))))

-- ---- each index once

-- 1 for a place with this index
abbrev pub has_index : ℕ → Place → ℕ
has_index x p = cond (p.index == x) 1 0

same-eq : (a b : ℕ) → a ≡ b → (a == b) ≡ true
same-eq a b e = grind (arith, nat_tests)

other-eq : (a b : ℕ) → (a ≡ b → ⊥) → (a == b) ≡ false
other-eq a b n = grind (arith, nat_tests)

none-below : (x b : ℕ) (es : List Entry) → x < b → sum_by (has_index x) (places_from b es) ≡ 0
none-below x b [] l = refl
none-below x b (e ∷ es) l =
    let here : has_index x (record { at = walked e; index = b }) ≡ 0 = ap (λ (t : Bool). cond t 1 0) (other-eq b x (λ q. omega (arith, l, q))) in
    sum_by-cons (has_index x) (record { at = walked e; index = b }) (places_from (suc b) es) ∙ omega (arith, here, none-below x (suc b) es (omega (arith, l)))

at-most-one : (x b : ℕ) (es : List Entry) → sum_by (has_index x) (places_from b es) ≤ 1
at-most-one x b [] = omega arith
at-most-one x b (e ∷ es) = rw (sum_by-cons (has_index x) (record { at = walked e; index = b }) (places_from (suc b) es)) (go (cases_eq b x) (at-most-one x (suc b) es))
  where
    go : ((b ≡ x) ⊎ (b ≡ x → ⊥)) → sum_by (has_index x) (places_from (suc b) es) ≤ 1 → cond (b == x) 1 0 + sum_by (has_index x) (places_from (suc b) es) ≤ 1
    go (inl q) ih = rw (same-eq b x q) (omega (arith, none-below x (suc b) es (omega (arith, q))))
    go (inr n) ih = rw (other-eq b x n) (omega (arith, ih))

one-there : (x : ℕ) (ps : List Place) (n : ℕ) → n < length ps → (place_at ps n).index ≡ x → 1 ≤ sum_by (has_index x) ps
one-there x [] n l e = absurd (omega (arith, l))
one-there x (p ∷ ps) zero l e = rw (sum_by-cons (has_index x) p ps, same-eq p.index x e) (omega arith)
one-there x (p ∷ ps) (suc n) l e = rw (sum_by-cons (has_index x) p ps) (omega (arith, one-there x ps n (omega (arith, l)) e))

two-there : (x : ℕ) (ps : List Place) (n m : ℕ) → n < m → m < length ps → (place_at ps n).index ≡ x → (place_at ps m).index ≡ x → 2 ≤ sum_by (has_index x) ps
two-there x [] n m a l e f = absurd (omega (arith, l))
two-there x (p ∷ ps) n zero a l e f = absurd (omega (arith, a))
two-there x (p ∷ ps) zero (suc m) a l e f = rw (sum_by-cons (has_index x) p ps, same-eq p.index x e) (omega (arith, one-there x ps m (omega (arith, l)) f))
two-there x (p ∷ ps) (suc n) (suc m) a l e f = rw (sum_by-cons (has_index x) p ps) (omega (arith, two-there x ps n m (omega (arith, a)) (omega (arith, l)) e f))

-- ---- the first repeat

walked-together : (a b : Entry) → a.j < 2147483648 → b.j < 2147483648 → walked a ≡ walked b → StandTogether a b
walked-together a b l m e = (omega arith, omega arith)

together-walked : (a b : Entry) → StandTogether a b → walked a ≡ walked b
together-walked a b t = ap (λ (i : ℕ). 2147483648 * i + a.j) t.0 ∙ ap (λ (j : ℕ). 2147483648 * b.i + j) t.1

module _ (es : List Entry) (ps : List Place) (perm : IsPermutation (places_from 0 es) ps) (narrow : All (λ (e : Entry). e.j < 2147483648) es)
    (sorted : (k : ℕ) → k + 1 < length ps → Lexical (place_at ps k) (place_at ps (k + 1))) where
  -- each place is that of an entry
  entry-there : (n : ℕ) → n < length ps → (k : ℕ) × (k < length es) × ((place_at ps n).at ≡ walked (entry_at es k)) × ((place_at ps n).index ≡ k)
  entry-there n l =
      let there = Contains-permutation ps (places_from 0 es) (place_at ps n) (IsPermutation-sym (places_from 0 es) ps perm) (n, l, get_or_default ps n (place_at ps n) (record { at = 0; index = 0 }) l) in
      let r = placed-from 0 es (place_at ps n) (contains-Mem (places_from 0 es) (place_at ps n) there) in
      (r.0, r.1, ap (λ (p : Place). p.at) r.2, ap (λ (p : Place). p.index) r.2 ∙ omega arith)

  -- each entry has its place
  place-there : (k : ℕ) → k < length es → (n : ℕ) × (n < length ps) × ((place_at ps n).at ≡ walked (entry_at es k)) × ((place_at ps n).index ≡ k)
  place-there k l =
      let there = Contains-permutation (places_from 0 es) ps (placed es 0 k) perm (Mem-contains (places_from 0 es) (placed es 0 k) (placed-there 0 es k l)) in
      let is : place_at ps there.0 ≡ placed es 0 k = get_or_default ps there.0 (record { at = 0; index = 0 }) (placed es 0 k) there.1 ∙ there.2 in
      (there.0, there.1, ap (λ (p : Place). p.at) is, ap (λ (p : Place). p.index) is ∙ omega arith)

  once : (n m : ℕ) → n < m → m < length ps → (place_at ps n).index ≡ (place_at ps m).index → ⊥
  once n m a l e =
      let two : 2 ≤ sum_by (has_index (place_at ps m).index) ps = two-there (place_at ps m).index ps n m a l e refl in
      let one : sum_by (has_index (place_at ps m).index) (places_from 0 es) ≤ 1 = at-most-one (place_at ps m).index 0 es in
      let same : sum_by (has_index (place_at ps m).index) ps ≡ sum_by (has_index (place_at ps m).index) (places_from 0 es) = sum_by-IsPermutation (has_index (place_at ps m).index) (places_from 0 es) ps perm in
      omega (arith, two, one, same)

  far : (i n : ℕ) → i + n < length ps → Lexical (place_at ps i) (place_at ps (i + n))
  far i zero l = subst (λ (x : ℕ). Lexical (place_at ps i) (place_at ps x)) (omega arith) (inr (refl, omega arith))
  far i (suc n) l =
      subst (λ (x : ℕ). Lexical (place_at ps i) (place_at ps x)) (omega arith)
      (lexical-trans (place_at ps i) (place_at ps (i + n)) (place_at ps (i + n + 1)) (far i n (omega (arith, l))) (sorted (i + n) (omega (arith, l))))

  far-to : (i j : ℕ) → i ≤ j → j < length ps → Lexical (place_at ps i) (place_at ps j)
  far-to i j a l = subst (λ (x : ℕ). Lexical (place_at ps i) (place_at ps x)) (omega (arith, a)) (far i (j - i) (omega (arith, a, l)))

  -- a repeat is the later one of two neighbours at one place
  neighbours : (h y : ℕ) → h < y → y < length es → StandTogether (entry_at es h) (entry_at es y)
      → (c : ℕ) × (c + 1 < length ps) × ((place_at ps c).at ≡ (place_at ps (c + 1)).at) × ((place_at ps (c + 1)).index ≡ y)
  neighbours h y l m t = go (place-there h (omega (arith, l, m))) (place-there y m)
    where
      At : ℕ → Type 0
      At k = (n : ℕ) × (n < length ps) × ((place_at ps n).at ≡ walked (entry_at es k)) × ((place_at ps n).index ≡ k)

      go : At h → At y → (c : ℕ) × (c + 1 < length ps) × ((place_at ps c).at ≡ (place_at ps (c + 1)).at) × ((place_at ps (c + 1)).index ≡ y)
      go (a, la, pa, ia) (b, lb, pb, ib) = order (cases_order a b)
        where
          same : (place_at ps a).at ≡ (place_at ps b).at
          same = pa ∙ together-walked (entry_at es h) (entry_at es y) t ∙ sym pb

          back : b ≤ a → Lexical (place_at ps b) (place_at ps a) → ⊥
          back q (inl x) = omega (arith, x, same)
          back q (inr x) = omega (arith, x.1, ia, ib, l)

          between : a < b → (c : ℕ) → b ≡ c + 1 → (c : ℕ) × (c + 1 < length ps) × ((place_at ps c).at ≡ (place_at ps (c + 1)).at) × ((place_at ps (c + 1)).index ≡ y)
          between q c e =
              let bound : c + 1 < length ps = omega (arith, lb, e) in
              let at_c : (place_at ps (c + 1)).at ≡ (place_at ps b).at = ap (λ (x : ℕ). (place_at ps x).at) (sym e) in
              (c, bound, two at_c (far-to a c (omega (arith, q, e)) (omega (arith, bound))) (sorted c bound), ap (λ (x : ℕ). (place_at ps x).index) (sym e) ∙ ib)
            where
              two : (place_at ps (c + 1)).at ≡ (place_at ps b).at → Lexical (place_at ps a) (place_at ps c) → Lexical (place_at ps c) (place_at ps (c + 1)) → (place_at ps c).at ≡ (place_at ps (c + 1)).at
              two w (inl u) (inl v) = absurd (omega (arith, w, u, v, same))
              two w (inl u) (inr v) = v.0
              two w (inr u) (inl v) = absurd (omega (arith, w, u.0, v, same))
              two w (inr u) (inr v) = v.0

          order : ((a ≡ b) ⊎ ((a < b) ⊎ (b < a))) → (c : ℕ) × (c + 1 < length ps) × ((place_at ps c).at ≡ (place_at ps (c + 1)).at) × ((place_at ps (c + 1)).index ≡ y)
          order (inl e) = absurd (omega (arith, l, sym ia ∙ ap (λ (x : ℕ). (place_at ps x).index) e ∙ ib))
          order (inr (inl q)) = between q (b - 1) (omega (arith, q))
          order (inr (inr q)) = absurd (back (omega (arith, q)) (far-to b a (omega (arith, q)) la))

  column : (k : ℕ) → k < length es → (entry_at es k).j < 2147483648
  column k l = narrow k (record { i = 0; j = 0; v = pos 0 }) l

  -- the least index of a later neighbour is the first repeat
  pub repeated : (r : Option ℕ) → IsLeastIndex ps (length ps) r → IsFirstRepeat es r
  repeated None f = λ k l h. let c = neighbours h.0 k h.1 l h.2 in f c.0 c.1 c.2
  repeated (Some x) ((n, l, e, i), g) = go (entry-there n (omega (arith, l))) (entry-there (n + 1) l) (sorted n l)
    where
      At : ℕ → Type 0
      At n = (k : ℕ) × (k < length es) × ((place_at ps n).at ≡ walked (entry_at es k)) × ((place_at ps n).index ≡ k)

      first : x < length es → (y : ℕ) → y < x → IsRepeat es y → ⊥
      first m y q (h, b, t) =
          let c = neighbours h y b (omega (arith, q, m)) t in
          omega (arith, g c.0 c.1 c.2, c.3, q)

      before : Lexical (place_at ps n) (place_at ps (n + 1)) → (place_at ps n).index < x
      before (inl u) = absurd (omega (arith, u, e))
      before (inr u) = less (cases_order (place_at ps n).index x)
        where
          less : (((place_at ps n).index ≡ x) ⊎ (((place_at ps n).index < x) ⊎ (x < (place_at ps n).index))) → (place_at ps n).index < x
          less (inl q) = absurd (once n (n + 1) (omega arith) l (q ∙ sym i))
          less (inr (inl q)) = q
          less (inr (inr q)) = absurd (omega (arith, q, u.1, i))

      go : At n → At (n + 1) → Lexical (place_at ps n) (place_at ps (n + 1)) → IsFirstRepeat es (Some x)
      go (a, la, pa, ia) (b, lb, pb, ib) w =
          let bx : b ≡ x = sym ib ∙ i in
          let lx : x < length es = omega (arith, lb, bx) in
          let same : walked (entry_at es a) ≡ walked (entry_at es x) = sym pa ∙ e ∙ pb ∙ ap (λ (y : ℕ). walked (entry_at es y)) bx in
          (lx, (a, omega (arith, before w, ia), walked-together (entry_at es a) (entry_at es x) (column a la) (column x lx) same), first lx)

-- ---- the program's loop and sort

pub found-more : (fs : List Found) (k : ℕ) (d : Found) → k < length fs
    → places_from 0 (found_entries (take (k + 1) fs)) ≡ places_from 0 (found_entries (take k fs)) ++ record { at = walked (plain_entry (get_or fs k d).triple); index = k } ∷ []
found-more fs k d l =
    ap (λ (l : List Found). places_from 0 (found_entries l)) (take_more fs k d l)
    ∙ ap (places_from 0) (map-append (λ (f : Found). plain_entry f.triple) (take k fs) (get_or fs k d ∷ []))
    ∙ places-more 0 (found_entries (take k fs)) (plain_entry (get_or fs k d).triple)
    ∙ ap (λ (n : ℕ). places_from 0 (found_entries (take k fs)) ++ record { at = walked (plain_entry (get_or fs k d).triple); index = n } ∷ []) (count (found_entries (take k fs)) (length-map (take k fs) (λ (f : Found). plain_entry f.triple) ∙ length-take-le k fs (omega (arith, l))))
  where
    count : (es : List Entry) → length es ≡ k → 0 + length es ≡ k
    count es e = omega (arith, e)

pub found-narrow : (fs : List Found) → All (λ (f : Found). f.triple.j < 2 ^ 31) fs → All (λ (e : Entry). e.j < 2147483648) (found_entries fs)
found-narrow [] h k d l = absurd (omega (arith, l))
found-narrow (f ∷ fs) h zero d l = All-head (λ (f : Found). f.triple.j < 2 ^ 31) f fs h
found-narrow (f ∷ fs) h (suc k) d l = found-narrow fs (All-tail (λ (f : Found). f.triple.j < 2 ^ 31) f fs h) k d (omega (arith, l))
