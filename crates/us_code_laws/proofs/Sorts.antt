-- The number at place q has q before it.
use Rattle.std.proofs.Common.{◌≡◌, ◌≢◌, ℕ, zero, suc, ◌+◌, ◌<◌, ◌≤◌, Bool, true, false, cond, refl, sym, ap, ◌∙◌, arith, List, [], ◌∷◌, length, get_or, map, pos, ℤ, count_by}
use Rattle.std.proofs.lemmas.List.Sums.{sum_by-cons}
use Rattle.std.specs.Prelude.{slice_index_or}
use Rattle.std.specs.List.{range_with_len}
use Rattle.us_code.specs.Sort.{before, insert_by, sort_by, ordered}

count_cons : (p : ℕ → Bool) (x : ℕ) (xs : List ℕ) → count_by p (x ∷ xs) ≡ cond (p x) 1 0 + count_by p xs
count_cons p x xs = sum_by-cons (λ y. cond (p y) 1 0) x xs

-- sorting keeps the length, and what holds of all
length_insert : (less : ℕ → ℕ → Bool) (x : ℕ) (ys : List ℕ) → length (insert_by less x ys) ≡ suc (length ys)
length_insert less x [] = refl
length_insert less x (y ∷ ys) = case (length_insert less x ys) (less x y)
  where
    case : length (insert_by less x ys) ≡ suc (length ys) → (b : Bool) → length (cond b (x ∷ y ∷ ys) (y ∷ insert_by less x ys)) ≡ suc (suc (length ys))
    case i true = refl
    case i false = ap suc i

pub length_sort : (less : ℕ → ℕ → Bool) (xs : List ℕ) → length (sort_by less xs) ≡ length xs
length_sort less [] = refl
length_sort less (x ∷ xs) = length_insert less x (sort_by less xs) ∙ ap suc (length_sort less xs)

abbrev AllBelow : ℕ → List ℕ → Type 0
AllBelow n [] = Unit {0}
AllBelow n (x ∷ xs) = (x < n) × AllBelow n xs

below_insert : (less : ℕ → ℕ → Bool) (n x : ℕ) (ys : List ℕ) → x < n → AllBelow n ys → AllBelow n (insert_by less x ys)
below_insert less n x [] lt h = (lt, tt)
below_insert less n x (y ∷ ys) lt h = case (below_insert less n x ys lt h.1) (less x y)
  where
    case : AllBelow n (insert_by less x ys) → (b : Bool) → AllBelow n (cond b (x ∷ y ∷ ys) (y ∷ insert_by less x ys))
    case i true = (lt, h)
    case i false = (h.0, i)

below_sort : (less : ℕ → ℕ → Bool) (n : ℕ) (xs : List ℕ) → AllBelow n xs → AllBelow n (sort_by less xs)
below_sort less n [] h = tt
below_sort less n (x ∷ xs) h = below_insert less n x (sort_by less xs) h.0 (below_sort less n xs h.1)

below_range : (n k m : ℕ) → k + m ≤ n → AllBelow n (range_with_len k m)
below_range n k zero h = tt
below_range n k (suc m) h = (omega arith, below_range n (k + 1) m (omega arith))

pub length_range : (k m : ℕ) → length (range_with_len k m) ≡ m
length_range k zero = refl
length_range k (suc m) = ap suc (length_range (k + 1) m)

length_map : (xs : List ℕ) → length (map pos xs) ≡ length xs
length_map [] = refl
length_map (x ∷ xs) = ap suc (length_map xs)

pub length_ordered : (keys : List (List ℤ)) (n : ℕ) → length (map pos (ordered keys n)) ≡ n
length_ordered keys n = length_map (ordered keys n) ∙ (length_sort (before keys) (range_with_len 0 n) ∙ length_range 0 n)

cell_of_map : (xs : List ℕ) (x : ℕ) → slice_index_or (map pos xs) x (pos 0) ≡ pos (get_or xs x 0)
cell_of_map [] x = refl
cell_of_map (y ∷ ys) zero = refl
cell_of_map (y ∷ ys) (suc x) = cell_of_map ys x

pub ordered_cell : (keys : List (List ℤ)) (n x : ℕ) → slice_index_or (map pos (ordered keys n)) x (pos 0) ≡ pos (get_or (ordered keys n) x 0)
ordered_cell keys n x = cell_of_map (ordered keys n) x

at_below : (n : ℕ) (xs : List ℕ) (x : ℕ) → AllBelow n xs → x < length xs → get_or xs x 0 < n
at_below n [] x h lt = absurd (omega arith)
at_below n (y ∷ ys) zero h lt = h.0
at_below n (y ∷ ys) (suc x) h lt = at_below n ys x h.1 (omega arith)

pub ordered_lt : (keys : List (List ℤ)) (n x : ℕ) → x < n → get_or (ordered keys n) x 0 < n
ordered_lt keys n x lt = at_below n (ordered keys n) x (below_sort (before keys) n (range_with_len 0 n) (below_range n 0 n (omega arith))) (omega (arith, lt, length_sort (before keys) (range_with_len 0 n), length_range 0 n))

-- a strict total order
pub record IsOrder (less : ℕ → ℕ → Bool) : Type 0 where
  pub irreflexive : (x : ℕ) → less x x ≡ false
  pub transitive : (x y z : ℕ) → less x y ≡ true → less y z ≡ true → less x z ≡ true
  pub total : (x y : ℕ) → x ≢ y → less x y ≡ false → less y x ≡ true

module _ (less : ℕ → ℕ → Bool) (o : IsOrder less) where
  abbrev pub Lower : ℕ → List ℕ → Type 0
  Lower x [] = Unit {0}
  Lower x (y ∷ ys) = (less x y ≡ true) × Lower x ys

  abbrev pub Rises : List ℕ → Type 0
  Rises [] = Unit {0}
  Rises (x ∷ xs) = Lower x xs × Rises xs

  abbrev pub Lacks : ℕ → List ℕ → Type 0
  Lacks x [] = Unit {0}
  Lacks x (y ∷ ys) = (x ≢ y) × Lacks x ys

  abbrev pub Distinct : List ℕ → Type 0
  Distinct [] = Unit {0}
  Distinct (x ∷ xs) = Lacks x xs × Distinct xs

  lower_far : (x y : ℕ) (ys : List ℕ) → less x y ≡ true → Lower y ys → Lower x ys
  lower_far x y [] h l = tt
  lower_far x y (z ∷ zs) h l = (o.transitive x y z h l.0, lower_far x y zs h l.1)

  lower_insert : (x y : ℕ) (ys : List ℕ) → less y x ≡ true → Lower y ys → Lower y (insert_by less x ys)
  lower_insert x y [] h l = (h, tt)
  lower_insert x y (z ∷ zs) h l = case (lower_insert x y zs h l.1) (less x z)
    where
      case : Lower y (insert_by less x zs) → (b : Bool) → Lower y (cond b (x ∷ z ∷ zs) (z ∷ insert_by less x zs))
      case i true = (h, l)
      case i false = (l.0, i)

  rises_insert : (x : ℕ) (ys : List ℕ) → Lacks x ys → Rises ys → Rises (insert_by less x ys)
  rises_insert x [] n r = (tt, tt)
  rises_insert x (y ∷ ys) n r = case (rises_insert x ys n.1 r.1) (less x y) refl
    where
      case : Rises (insert_by less x ys) → (b : Bool) → less x y ≡ b → Rises (cond b (x ∷ y ∷ ys) (y ∷ insert_by less x ys))
      case i true e = ((e, lower_far x y ys e r.0), r)
      case i false e = (lower_insert x y ys (o.total x y n.0 e) r.0, i)

  count_insert : (p : ℕ → Bool) (x : ℕ) (ys : List ℕ) → count_by p (insert_by less x ys) ≡ count_by p (x ∷ ys)
  count_insert p x [] = refl
  count_insert p x (y ∷ ys) = case (count_insert p x ys) (less x y)
    where
      case : count_by p (insert_by less x ys) ≡ count_by p (x ∷ ys) → (b : Bool) → count_by p (cond b (x ∷ y ∷ ys) (y ∷ insert_by less x ys)) ≡ count_by p (x ∷ y ∷ ys)
      case i true = refl
      case i false = omega (arith, count_cons p y (insert_by less x ys), count_cons p x (y ∷ ys), count_cons p y ys, count_cons p x ys, i)

  pub count_sort : (p : ℕ → Bool) (xs : List ℕ) → count_by p (sort_by less xs) ≡ count_by p xs
  count_sort p [] = refl
  count_sort p (x ∷ xs) = count_insert p x (sort_by less xs) ∙ omega (arith, count_cons p x (sort_by less xs), count_cons p x xs, count_sort p xs)

  none_before : (x : ℕ) (ys : List ℕ) → Lower x ys → count_by (λ y. less y x) ys ≡ 0
  none_before x [] l = refl
  none_before x (y ∷ ys) l =
      let not : less y x ≡ false = case (less y x) refl in
      let e : ◌≡◌ {A = ℕ} (cond (less y x) 1 0) 0 = ap (λ b. cond b 1 0) not in
      omega (arith, count_cons (λ z. less z x) y ys, e, none_before x ys l.1)
    where
      case : (b : Bool) → less y x ≡ b → less y x ≡ false
      case false e = e
      case true e = absurd (let bad : true ≡ false = sym (o.transitive x y x l.0 e) ∙ o.irreflexive x in cc)

  pub rank : (ys : List ℕ) → Rises ys → (q : ℕ) → q < length ys → count_by (λ y. less y (get_or ys q 0)) ys ≡ q
  rank [] r q h = absurd (omega arith)
  rank (y ∷ ys) r zero h =
      let irr = o.irreflexive y in
      let e : ◌≡◌ {A = ℕ} (cond (less y y) 1 0) 0 = ap (λ b. cond b 1 0) irr in
      omega (arith, count_cons (λ z. less z y) y ys, e, none_before y ys r.0)
  rank (y ∷ ys) r (suc q) h =
      counted (λ z. less z (get_or ys q 0)) (at ys q r.0 (omega arith)) (rank ys r.1 q (omega arith))
    where
      counted : (p : ℕ → Bool) → p y ≡ true → count_by p ys ≡ q → count_by p (y ∷ ys) ≡ suc q
      counted p a b = let e : ◌≡◌ {A = ℕ} (cond (p y) 1 0) 1 = ap (λ b. cond b 1 0) a in omega (arith, count_cons p y ys, e, b)

      at : (zs : List ℕ) (i : ℕ) → Lower y zs → i < length zs → less y (get_or zs i 0) ≡ true
      at [] i l lt = absurd (omega arith)
      at (z ∷ zs) zero l lt = l.0
      at (z ∷ zs) (suc i) l lt = at zs i l.1 (omega arith)

  lacks_insert : (x y : ℕ) (ys : List ℕ) → x ≢ y → Lacks x ys → Lacks x (insert_by less y ys)
  lacks_insert x y [] n l = (n, tt)
  lacks_insert x y (z ∷ zs) n l = case (lacks_insert x y zs n l.1) (less y z)
    where
      case : Lacks x (insert_by less y zs) → (b : Bool) → Lacks x (cond b (y ∷ z ∷ zs) (z ∷ insert_by less y zs))
      case i true = (n, l)
      case i false = (l.0, i)

  lacks_sort : (x : ℕ) (ys : List ℕ) → Lacks x ys → Lacks x (sort_by less ys)
  lacks_sort x [] l = tt
  lacks_sort x (y ∷ ys) l = lacks_insert x y (sort_by less ys) l.0 (lacks_sort x ys l.1)

  pub rises_sort : (xs : List ℕ) → Distinct xs → Rises (sort_by less xs)
  rises_sort [] d = tt
  rises_sort (x ∷ xs) d = rises_insert x (sort_by less xs) (lacks_sort x xs d.0) (rises_sort xs d.1)

  -- after sorting, the one at place q has exactly q before it, among all
  pub place_is_rank : (xs : List ℕ) → Distinct xs → (q : ℕ) → q < length (sort_by less xs) → count_by (λ y. less y (get_or (sort_by less xs) q 0)) xs ≡ q
  place_is_rank xs d q h = sym (count_sort _ xs) ∙ rank (sort_by less xs) (rises_sort xs d) q h

  at_lower : (x : ℕ) (ys : List ℕ) (i : ℕ) → Lower x ys → i < length ys → less x (get_or ys i 0) ≡ true
  at_lower x [] i l lt = absurd (omega arith)
  at_lower x (y ∷ ys) zero l lt = l.0
  at_lower x (y ∷ ys) (suc i) l lt = at_lower x ys i l.1 (omega arith)

  pub rises_at : (ys : List ℕ) → Rises ys → (q r : ℕ) → q < r → r < length ys → less (get_or ys q 0) (get_or ys r 0) ≡ true
  rises_at [] h q r lt len = absurd (omega arith)
  rises_at (y ∷ ys) h zero zero lt len = absurd (omega arith)
  rises_at (y ∷ ys) h zero (suc r) lt len = at_lower y ys r h.0 (omega arith)
  rises_at (y ∷ ys) h (suc q) zero lt len = absurd (omega arith)
  rises_at (y ∷ ys) h (suc q) (suc r) lt len = rises_at ys h.1 q r (omega arith) (omega arith)
