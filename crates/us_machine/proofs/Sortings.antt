-- Places in the order of keys.
use Rattle.std.proofs.Common.{◌≡◌, ◌≢◌, ℕ, zero, suc, ◌+◌, ◌<◌, Bool, true, false, cond, eqb, List, [], ◌∷◌, ◌++◌, map, length, get_or, ℤ, pos, count_by, refl, sym, ap, ap₂, ◌∙◌, arith, add-one}
use Rattle.std.specs.Cmp.{IsStrictWeakOrder}
use Rattle.std.specs.List.{range_with_len}
use Rattle.std.specs.List.Sorted.{IsPermutation, IsSortedBy}
use Rattle.std.proofs.lemmas.Bool.Decides.{nat_tests}
use Rattle.std.proofs.lemmas.List.{length-map}
use Rattle.std.proofs.lemmas.List.Sorted.{sorted_far, sum_by-IsPermutation, length_permutation, IsPermutation-refl}
use Rattle.std.proofs.lemmas.List.Sums.{sum_by-cons}
use Rattle.std.proofs.lemmas.List.FromFn.{length-range_with_len, get_or-range_with_len}
use Rattle.us_code.specs.declared.program.Buf.{Buf}
use Rattle.us_code.specs.Sort.{before, ordered}
use Rattle.us_code_laws.proofs.Orders.{by_keys, ordered_by_keys}
use Rattle.us_code_laws.proofs.Sorts.{IsOrder}
use Rattle.us_machine.specs.declared.tables.Tables.{Tables}
use Rattle.us_machine.specs.Sorting.{lists_at, lists_of}
use Rattle.us_machine.specs.Tables.{seg_of}

eq_of : (a b : ℕ) → eqb a b ≡ true → a ≡ b
eq_of a b h = grind (arith, nat_tests)

ne_of : (a b : ℕ) → eqb a b ≡ false → a ≢ b
ne_of a b h = grind (arith, nat_tests)

eq_self : (a : ℕ) → eqb a a ≡ true
eq_self a = grind (arith, nat_tests)

ne_so : (a b : ℕ) → a ≢ b → eqb a b ≡ false
ne_so a b h = grind (arith, nat_tests)

count_cons : (p : ℕ → Bool) (x : ℕ) (xs : List ℕ) → count_by p (x ∷ xs) ≡ cond (p x) 1 0 + count_by p xs
count_cons p x xs = sum_by-cons (λ y. cond (p y) 1 0) x xs

module _ (less : ℕ → ℕ → Bool) (o : IsOrder less) where
  one_way : (x y : ℕ) → less x y ≡ true → less y x ≡ false
  one_way x y h = case (less y x) refl
    where
      case : (b : Bool) → less y x ≡ b → less y x ≡ false
      case false e = e
      case true e = absurd (let bad : true ≡ false = sym (o.transitive x y x h e) ∙ o.irreflexive x in cc)

  chain : (x y z : ℕ) → less x y ≡ false → less y z ≡ false → less x z ≡ false
  chain x y z p q = case (less x z) refl (eqb x y) (eq_of x y) (ne_of x y)
    where
      case : (b : Bool) → less x z ≡ b → (c : Bool) → (c ≡ true → x ≡ y) → (c ≡ false → x ≢ y) → less x z ≡ false
      case false e c f g = e
      case true e true f g = ap (λ (v : ℕ). less v z) (f refl) ∙ q
      case true e false f g = absurd (let bad : true ≡ false = sym (o.transitive y x z (o.total x y (g refl) p) e) ∙ q in cc)

  pub weak : IsStrictWeakOrder less
  weak = record { one_way = one_way; chain = chain }

  -- none of the list is less than x
  abbrev Above : ℕ → List ℕ → Type 0
  Above x [] = Unit {0}
  Above x (y ∷ ys) = (less y x ≡ false) × Above x ys

  abbrev Up : List ℕ → Type 0
  Up [] = Unit {0}
  Up (x ∷ xs) = Above x xs × Up xs

  above_from : (x : ℕ) (ys : List ℕ) → ((j : ℕ) → j < length ys → less (get_or ys j 0) x ≡ false) → Above x ys
  above_from x [] h = tt
  above_from x (y ∷ ys) h = (h 0 (omega arith), above_from x ys (λ j lt. h (suc j) (omega (arith, lt))))

  up_from : (xs : List ℕ) → ((i j : ℕ) → i < j → j < length xs → less (get_or xs j 0) (get_or xs i 0) ≡ false) → Up xs
  up_from [] h = tt
  up_from (x ∷ xs) h = (above_from x xs (λ j lt. h 0 (suc j) (omega arith) (omega (arith, lt))), up_from xs (λ i j k l. h (suc i) (suc j) (omega (arith, k)) (omega (arith, l))))

  -- what is less than all is not among them
  absent : (x : ℕ) (ys : List ℕ) → ((j : ℕ) → j < length ys → get_or ys j 0 ≢ x) → count_by (eqb x) ys ≡ 0
  absent x [] h = refl
  absent x (y ∷ ys) h =
      let e : ◌≡◌ {A = ℕ} (cond (eqb x y) 1 0) 0 = ap (λ b. cond b 1 0) (ne_so x y (λ q. h 0 (omega arith) (sym q))) in
      omega (arith, count_cons (eqb x) y ys, e, absent x ys (λ j lt. h (suc j) (omega (arith, lt))))

  above_at : (x : ℕ) (ys : List ℕ) (j : ℕ) → Above x ys → j < length ys → less (get_or ys j 0) x ≡ false
  above_at x [] j h lt = absurd (omega (arith, lt))
  above_at x (y ∷ ys) zero h lt = h.0
  above_at x (y ∷ ys) (suc j) h lt = above_at x ys j h.1 (omega (arith, lt))

  not_among : (x y : ℕ) (ys : List ℕ) → less x y ≡ true → Above y ys → (j : ℕ) → j < length (y ∷ ys) → get_or (y ∷ ys) j 0 ≢ x
  not_among x y ys h up zero lt e = absurd (let bad : true ≡ false = sym h ∙ (ap (λ (v : ℕ). less x v) e ∙ o.irreflexive x) in cc)
  not_among x y ys h up (suc j) lt e = absurd (let bad : true ≡ false = sym h ∙ (ap (λ (v : ℕ). less v y) (sym e) ∙ above_at y ys j up (omega (arith, lt))) in cc)

  here : (x : ℕ) (xs : List ℕ) → 0 < count_by (eqb x) (x ∷ xs)
  here x xs =
      let e : ◌≡◌ {A = ℕ} (cond (eqb x x) 1 0) 1 = ap (λ b. cond b 1 0) (eq_self x) in
      omega (arith, count_cons (eqb x) x xs, e)

  first_same : (x y : ℕ) (xs ys : List ℕ) → Above x xs → Above y ys → ((p : ℕ → Bool) → count_by p (x ∷ xs) ≡ count_by p (y ∷ ys)) → x ≡ y
  first_same x y xs ys ux uy same = case (less x y) refl (less y x) refl (eqb x y) (eq_of x y) (ne_of x y)
    where
      case : (a : Bool) → less x y ≡ a → (b : Bool) → less y x ≡ b → (c : Bool) → (c ≡ true → x ≡ y) → (c ≡ false → x ≢ y) → x ≡ y
      case true e b f c g h = absurd (omega (arith, here x xs, same (eqb x), absent x (y ∷ ys) (not_among x y ys e uy)))
      case false e true f c g h = absurd (omega (arith, here y ys, same (eqb y), absent y (x ∷ xs) (not_among y x xs f ux)))
      case false e false f true g h = g refl
      case false e false f false g h = absurd (let bad : true ≡ false = sym (o.total x y (h refl) e) ∙ f in cc)

  -- two lists that ascend, with the same elements, are one
  pub unique : (xs ys : List ℕ) → Up xs → Up ys → ((p : ℕ → Bool) → count_by p xs ≡ count_by p ys) → xs ≡ ys
  unique [] [] ux uy same = refl
  unique [] (y ∷ ys) ux uy same = absurd (omega (arith, here y ys, same (eqb y)))
  unique (x ∷ xs) [] ux uy same = absurd (omega (arith, here x xs, same (eqb x)))
  unique (x ∷ xs) (y ∷ ys) ux uy same =
      let e = first_same x y xs ys ux.0 uy.0 same in
      let rest : (p : ℕ → Bool) → count_by p xs ≡ count_by p ys = λ p. tails p e (same p) in
      ap (λ (z : ℕ). z ∷ xs) e ∙ ap (λ (zs : List ℕ). y ∷ zs) (unique xs ys ux.1 uy.1 rest)
    where
      tails : (p : ℕ → Bool) → x ≡ y → count_by p (x ∷ xs) ≡ count_by p (y ∷ ys) → count_by p xs ≡ count_by p ys
      tails p e s =
          let f : ◌≡◌ {A = ℕ} (cond (p x) 1 0) (cond (p y) 1 0) = ap (λ (z : ℕ). cond (p z) 1 0) e in
          omega (arith, count_cons p x xs, count_cons p y ys, f, s)

pub weak_order : (keys : List (List ℤ)) → IsStrictWeakOrder (before keys)
weak_order keys = weak (before keys) (by_keys keys)

-- what a sort of the places by the keys gives
pub are_ordered : (keys : List (List ℤ)) (n : ℕ) (old new : List ℕ) → old ≡ range_with_len 0 n → IsPermutation old new → IsSortedBy (before keys) new → new ≡ ordered keys n
are_ordered keys n old new e moved sorted =
    let less = before keys in
    let o = by_keys keys in
    let long : length new ≡ n = length_permutation old new moved ∙ (ap (λ (xs : List ℕ). length xs) e ∙ length-range_with_len 0 n) in
    unique less o new (ordered keys n)
    (up_from less o new (λ i j lt l. sorted_far less (weak_order keys) new sorted i j 0 (omega (arith, lt)) l))
    (up_from less o (ordered keys n) (λ i j lt l. one_way less o _ _ (ordered_by_keys.ascending keys n i j lt (omega (arith, l, ordered_by_keys.long keys n)))))
    (λ p. sum_by-IsPermutation (λ y. cond (p y) 1 0) old new moved ∙ (ap (count_by p) e ∙ sym (ordered_by_keys.all keys n p)))

-- places that ascend as they are
pub stay_ordered : (keys : List (List ℤ)) (n : ℕ) (places : List ℕ) → places ≡ range_with_len 0 n → ((x : ℕ) → x + 1 < n → before keys (x + 1) x ≡ false) → places ≡ ordered keys n
stay_ordered keys n places e up =
    let range = range_with_len 0 n in
    let sorted : IsSortedBy (before keys) range = λ k d from lt.
    let l : k + 1 < n = omega (arith, lt, length-range_with_len 0 n) in
    let after : get_or range (k + 1) d ≡ k + 1 = get_or-range_with_len 0 n (k + 1) d l ∙ omega arith in
    let at : get_or range k d ≡ k = get_or-range_with_len 0 n k d (omega (arith, l)) ∙ omega arith in
    ap₂ (before keys) after at ∙ up k l in
    e ∙ are_ordered keys n range range refl (IsPermutation-refl range) sorted

-- the buffers' lists by their places
pub same_lists : (t : Tables) (lists : List (List ℤ)) (keys : List Buf) → lists_at lists (map (seg_of t) keys) ≡ lists_of t lists keys
same_lists t lists [] = refl
same_lists t lists (k ∷ ks) = ap (λ (xs : List (List ℤ)). get_or lists (seg_of t k) [] ∷ xs) (same_lists t lists ks)

range_push : (k m : ℕ) → range_with_len k (suc m) ≡ range_with_len k m ++ (k + m) ∷ []
range_push k zero = let e : k ≡ k + 0 = omega arith in ap (λ (j : ℕ). j ∷ []) e
range_push k (suc m) =
    let e : k + 1 + m ≡ k + suc m = omega arith in
    ap (λ (xs : List ℕ). k ∷ xs) (range_push (k + 1) m ∙ ap (λ (j : ℕ). range_with_len (k + 1) m ++ j ∷ []) e)

pub range_next : (m : ℕ) (old new : List ℕ) → old ≡ range_with_len 0 m → new ≡ old ++ m ∷ [] → new ≡ range_with_len 0 (m + 1)
range_next m old new e f =
    let z : 0 + m ≡ m = omega arith in
    f ∙ (ap (λ (xs : List ℕ). xs ++ m ∷ []) e
    ∙ sym (ap (range_with_len 0) (add-one m) ∙ (range_push 0 m ∙ ap (λ (j : ℕ). range_with_len 0 m ++ j ∷ []) z)))

pub place_cell : (xs : List ℕ) (i : ℕ) → get_or (map pos xs) i (pos 0) ≡ pos (get_or xs i 0)
place_cell [] i = refl
place_cell (x ∷ xs) zero = refl
place_cell (x ∷ xs) (suc i) = place_cell xs i

pub map_long : (xs : List ℕ) → length (map pos xs) ≡ length xs
map_long xs = length-map xs pos
