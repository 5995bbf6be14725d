-- Items sorted by their coordinates are rows in ascending order, where all lists of coordinates differ.
use Rattle.std.specs.List.Sorted.{IsPermutation, IsSortedBy}
use Rattle.std.proofs.Common.{◌≡◌, ℕ, ◌<◌, ◌⊎◌, ◌≢◌, List, [], ◌∷◌, ◌++◌, map, length, get_or, take, drop, Bool, true, false, sym, refl, ap, ◌∙◌, subst, inl, inr, arith, All, AllPairs, Decides}
use Rattle.std.proofs.lemmas.Bool.{false≢true}
use Rattle.std.proofs.lemmas.List.{get_or-map, length-map, take-append-drop}
use Rattle.std.proofs.lemmas.List.Sorted.{All-permutation, IsPermutation-map, sorted_far}
use Rattle.std.proofs.lemmas.Map.Keys.{IsDistinct-IsPermutation}
use Rattle.std.proofs.lemmas.Map.Made.{AllPairs-from_IsDistinct, IsDistinct-from_AllPairs}
use Rattle.us_format.specs.Lists.{lower, same}
use Rattle.us_format.specs.Positions.{Row}
use Rattle.us_format.proofs.Ascending.{lower-cons, lower-next}
use Rattle.us_format.proofs.Order.{lower-cases, same-true}
use Rattle.us_format.proofs.Shuffled.{same-self}
use Rattle.us_build.specs.declared.items.Item.{Item}
use Rattle.us_build.specs.Items.{IsAscending, key, row_at, rows_at}
use Rattle.us_build.proofs.Counts.{same-false}
use Rattle.us_build.proofs.Sorting.{before, before-order}

pub same-flip : (x y : List ℕ) → same x y ≡ same y x
same-flip x y = go (same x y) refl
  where
    go : (b : Bool) → same x y ≡ b → b ≡ same y x
    go true e = subst (λ (z : List ℕ). true ≡ same z x) (same-true x y e) (sym (same-self x))
    go false e = sym (same-false y x (λ q. false≢true (sym e ∙ subst (λ (z : List ℕ). same x z ≡ true) (sym q) (same-self x))))

pub same-decides : (x y : List ℕ) → Decides (same x y) (x ≡ y)
same-decides x y = (same-true x y, λ q. subst (λ (z : List ℕ). same x z ≡ true) q (same-self x))

-- equal fronts don't matter
pub lower-behind : (p a b : List ℕ) → lower (p ++ a) (p ++ b) ≡ true → lower a b ≡ true
lower-behind [] a b h = h
lower-behind (x ∷ p) a b h = lower-behind p a b (go (lower-cons x x (p ++ a) (p ++ b) h))
  where
    go : (x < x) ⊎ ((x ≡ x) × (lower (p ++ a) (p ++ b) ≡ true)) → lower (p ++ a) (p ++ b) ≡ true
    go (inl l) = absurd (omega (arith, l))
    go (inr e) = e.1

-- no two items have one list of coordinates
abbrev pub AreApart : List Item → Type 0
AreApart xs = AllPairs (λ x y. x.coordinates ≢ y.coordinates) xs

abbrev pub lists : List Item → List (List ℕ)
lists xs = map (λ (x : Item). x.coordinates) xs

pub apart-lists : (xs : List Item) (e : Item) → AreApart xs → AllPairs (λ a b. a ≢ b) (lists xs)
apart-lists xs e h i j d l k q =
    let f = λ (y : Item). y.coordinates in
    let n : j < length xs = omega (arith, k, length-map xs f) in
    h i j e l n (sym (get_or-map f xs i e d (omega arith)) ∙ q ∙ get_or-map f xs j e d n)

pub apart-shuffled : (xs ys : List Item) → IsPermutation xs ys → AreApart xs → AreApart ys
apart-shuffled xs ys h p i j d l k e =
    let f = λ (y : Item). y.coordinates in
    let q : AllPairs (λ a b. a ≢ b) (lists ys) =
    AllPairs-from_IsDistinct same-decides (lists ys)
    (IsDistinct-IsPermutation same same-flip (lists xs) (lists ys) (IsPermutation-map f xs ys h) (IsDistinct-from_AllPairs same-decides (lists xs) (apart-lists xs d p))) in
    q i j (f d) l (omega (arith, k, length-map ys f)) (get_or-map f ys i d (f d) (omega arith) ∙ e ∙ sym (get_or-map f ys j d (f d) k))

pub sorted-ascends : (first : ℕ) (front : List ℕ) (xs ys : List Item) → All (λ x. x.at ≡ 0) xs → All (λ x. take first x.coordinates ≡ front) xs → AreApart xs → IsPermutation xs ys → IsSortedBy before ys
    → IsAscending (rows_at first ys)
sorted-ascends first front xs ys zeros fronts apart h up i j d l k =
    let n : j < length ys = omega (arith, k, length-map ys (row_at first)) in
    let e : Item = record { above = 0; at = 0; coordinates = []; value = d.value } in
    let x : Item = get_or ys i e in
    let y : Item = get_or ys j e in
    let rx : get_or (rows_at first ys) i d ≡ row_at first x = get_or-map (row_at first) ys i e d (omega arith) in
    let ry : get_or (rows_at first ys) j d ≡ row_at first y = get_or-map (row_at first) ys j e d n in
    let zx : x.at ≡ 0 = All-permutation (λ (z : Item). z.at ≡ 0) xs ys h zeros i e (omega arith) in
    let zy : y.at ≡ 0 = All-permutation (λ (z : Item). z.at ≡ 0) xs ys h zeros j e n in
    let fx : take first x.coordinates ≡ front = All-permutation (λ (z : Item). take first z.coordinates ≡ front) xs ys h fronts i e (omega arith) in
    let fy : take first y.coordinates ≡ front = All-permutation (λ (z : Item). take first z.coordinates ≡ front) xs ys h fronts j e n in
    let cx : front ++ drop first x.coordinates ≡ x.coordinates = ap (λ (p : List ℕ). p ++ drop first x.coordinates) (sym fx) ∙ take-append-drop first x.coordinates in
    let cy : front ++ drop first y.coordinates ≡ y.coordinates = ap (λ (p : List ℕ). p ++ drop first y.coordinates) (sym fy) ∙ take-append-drop first y.coordinates in
    let high : lower y.coordinates x.coordinates ≡ false = sorted_far before before-order ys up i j e (omega arith) n in
    let strict : lower x.coordinates y.coordinates ≡ true = go x y (apart-shuffled xs ys h apart i j e l n) high (lower-cases x.coordinates y.coordinates) in
    let rest : lower (drop first x.coordinates) (drop first y.coordinates) ≡ true =
    lower-behind front (drop first x.coordinates) (drop first y.coordinates) (ap (λ (a : List ℕ). lower a (front ++ drop first y.coordinates)) cx ∙ ap (lower x.coordinates) cy ∙ strict) in
    ap (λ (r : Row). lower (key r) (key (get_or (rows_at first ys) j d))) rx ∙ ap (λ (r : Row). lower (key (row_at first x)) (key r)) ry
    ∙ lower-next x.at y.at (drop first x.coordinates) (drop first y.coordinates) (zx ∙ sym zy) rest
  where
    go : (x y : Item) → (x.coordinates ≢ y.coordinates) → lower y.coordinates x.coordinates ≡ false → (lower x.coordinates y.coordinates ≡ true) ⊎ ((x.coordinates ≡ y.coordinates) ⊎ (lower y.coordinates x.coordinates ≡ true))
        → lower x.coordinates y.coordinates ≡ true
    go x y ne f (inl h) = h
    go x y ne f (inr (inl q)) = absurd (ne q)
    go x y ne f (inr (inr q)) = absurd (false≢true (sym f ∙ q))
