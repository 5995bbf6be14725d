-- Differences from buffers as differences of lists.
use Rattle.std.proofs.Common.{◌≡◌, ℕ, zero, suc, ◌+◌, ◌-◌, ◌^◌, ◌<◌, ◌≤◌, ℤ, List, [], ◌∷◌, ◌++◌, map, length, get_or, take, drop, min, Bool, true, false, cond, not, sym, refl, ap, ◌∙◌, arith, Option, Some, None, eqb-true, eq-eqb, nat_eq, int_eq, pos, ◌⊎◌, inl, inr, ap₂}
use Rattle.std.specs.Option.{is_some}
use Rattle.std.proofs.lemmas.Bool.{cases_eq, false≢true, ne_eqb}
use Rattle.std.proofs.lemmas.Bool.Decides.{Decides-int_eq}
use Rattle.std.proofs.lemmas.List.{drop_all, drop_more, ext_get_or, length-map, length-take-le, map-append, take-append-drop, take_all, take_more}
use Rattle.us_format.specs.Lists.{then_do, or_else, when, first_from, nth, cell}
use Rattle.us_format.specs.Packs.{Buffer, written}
use Rattle.us_format.proofs.Climb.{cell-written, first_from-is, length-written}
use Rattle.us_levels.specs.declared.differing.Difference.{Difference}
use Rattle.us_levels.specs.declared.differing.Difference.TheVariants.{Cell, Long}
use Rattle.us_levels.specs.Lists.{first_unlike, list_difference, lists_difference}
use Rattle.us_levels.specs.Differences.{first_cell, difference_at, first_difference}

-- ---- the first number that passes a test

pub first_from-same : (t u : ℕ → Bool) (k n : ℕ) → ((x : ℕ) → k ≤ x → x < k + n → t x ≡ u x) → first_from t k n ≡ first_from u k n
first_from-same t u k zero h = refl
first_from-same t u k (suc n) h =
    ap (λ (b : Bool). cond b (Some k) (first_from t (suc k) n)) (h k (omega arith) (omega arith))
    ∙ ap (λ (r : Option ℕ). cond (u k) (Some k) r) (first_from-same t u (suc k) n (λ x a b. h x (omega (arith, a)) (omega (arith, b))))

pub first_from-found : (t : ℕ → Bool) (k n x : ℕ) → first_from t k n ≡ Some x → (k ≤ x) × (x < k + n) × (t x ≡ true)
first_from-found t k zero x h = absurd cc
first_from-found t k (suc n) x h = go (t k) refl h (first_from-found t (suc k) n x)
  where
    go : (b : Bool) → t k ≡ b → cond b (Some k) (first_from t (suc k) n) ≡ Some x
        → (first_from t (suc k) n ≡ Some x → (suc k ≤ x) × (x < suc k + n) × (t x ≡ true)) → (k ≤ x) × (x < k + suc n) × (t x ≡ true)
    go true e q ih = let r : k ≡ x = cc in (omega (arith, r), omega (arith, r), sym (ap t r) ∙ e)
    go false e q ih = let r = ih q in (omega (arith, r.0), omega (arith, r.1), r.2)

pub first_from-none : (t : ℕ → Bool) (k n x : ℕ) → first_from t k n ≡ None → k ≤ x → x < k + n → t x ≡ false
first_from-none t k zero x h a b = absurd (omega (arith, a, b))
first_from-none t k (suc n) x h a b = go (t k) refl h (λ q l. first_from-none t (suc k) n x q l (omega (arith, b)))
  where
    go : (c : Bool) → t k ≡ c → cond c (Some k) (first_from t (suc k) n) ≡ None → (first_from t (suc k) n ≡ None → suc k ≤ x → t x ≡ false) → t x ≡ false
    go true e q ih = absurd cc
    go false e q ih = here (t x) refl
      where
        here : (d : Bool) → t x ≡ d → d ≡ false
        here false f = refl
        here true f = sym f ∙ ih q (above (λ w. other w f))
          where
            other : k ≡ x → t x ≡ true → ⊥
            other w f = absurd cc

            above : (k ≡ x → ⊥) → suc k ≤ x
            above n = omega (arith, a, n)

-- ---- one buffer

-- the difference of the lengths
abbrev pub ends : ℕ → ℕ → ℕ → Option Difference
ends k have want = when (not (nat_eq have want)) (Long k have (min want (2 ^ 64 - 1)))

pub difference-written : (k : ℕ) (b : Buffer) (xs : List ℤ) → difference_at k b xs ≡ list_difference k (written b) xs
difference-written k b xs = go (first_unlike (written b) xs) refl
  where
    n : length (written b) ≡ b.len
    n = length-written b

    tests : first_cell b xs ≡ first_unlike (written b) xs
    tests =
        first_from-same (λ x. not (int_eq (cell xs x) (b.cell x))) (λ x. not (int_eq (cell xs x) (cell (written b) x))) 0 (min (length xs) b.len)
        (λ x a l. ap (λ (z : ℤ). not (int_eq (cell xs x) z)) (sym (cell-written b x (omega (arith, l)))))
        ∙ ap (λ (m : ℕ). first_from (λ x. not (int_eq (cell xs x) (cell (written b) x))) 0 (min (length xs) m)) (sym n)

    lengths : ends k (length xs) b.len ≡ ends k (length xs) (length (written b))
    lengths = ap (ends k (length xs)) (sym n)

    go : (r : Option ℕ) → first_unlike (written b) xs ≡ r → difference_at k b xs ≡ list_difference k (written b) xs
    go None e =
        ap (λ (f : Option ℕ). or_else (then_do f (λ x. Some (Cell k x (cell xs x) (b.cell x)))) (ends k (length xs) b.len)) (tests ∙ e)
        ∙ lengths
        ∙ sym (ap (λ (f : Option ℕ). or_else (then_do f (λ x. Some (Cell k x (cell xs x) (cell (written b) x)))) (ends k (length xs) (length (written b)))) e)
    go (Some x) e =
        let f = first_from-found (λ x. not (int_eq (cell xs x) (cell (written b) x))) 0 (min (length xs) (length (written b))) x e in
        ap (λ (f : Option ℕ). or_else (then_do f (λ x. Some (Cell k x (cell xs x) (b.cell x)))) (ends k (length xs) b.len)) (tests ∙ e)
        ∙ ap (λ (z : ℤ). Some (Cell k x (cell xs x) z)) (sym (cell-written b x (omega (arith, f.1, n))))
        ∙ sym (ap (λ (f : Option ℕ). or_else (then_do f (λ x. Some (Cell k x (cell xs x) (cell (written b) x)))) (ends k (length xs) (length (written b)))) e)

pub differences-written : (k : ℕ) (bs : List Buffer) (bufs : List (List ℤ)) → first_difference k bs bufs ≡ lists_difference k (map written bs) bufs
differences-written k [] bufs = refl
differences-written k (b ∷ bs) bufs =
    ap (λ (d : Option Difference). or_else d (first_difference (suc k) bs bufs)) (difference-written k b (nth bufs k))
    ∙ ap (λ (d : Option Difference). or_else (list_difference k (written b) (nth bufs k)) d) (differences-written (suc k) bs bufs)

-- ---- lists behind lists

or-assoc : {A : Type 0} (a b d : Option A) → or_else (or_else a b) d ≡ or_else a (or_else b d)
or-assoc None b d = refl
or-assoc (Some x) b d = refl

pub differences-append : (k : ℕ) (xs ys bufs : List (List ℤ)) → lists_difference k (xs ++ ys) bufs ≡ or_else (lists_difference k xs bufs) (lists_difference (k + length xs) ys bufs)
differences-append k [] ys bufs = ap (λ (n : ℕ). lists_difference n ys bufs) (omega arith)
differences-append k (x ∷ xs) ys bufs =
    ap (λ (d : Option Difference). or_else (list_difference k x (nth bufs k)) d) (differences-append (suc k) xs ys bufs)
    ∙ sym (or-assoc (list_difference k x (nth bufs k)) (lists_difference (suc k) xs bufs) (lists_difference (suc k + length xs) ys bufs))
    ∙ ap (λ (n : ℕ). or_else (lists_difference k (x ∷ xs) bufs) (lists_difference n ys bufs)) (omega arith)

pub differences-found : (k : ℕ) (xs ys bufs : List (List ℤ)) (d : Difference) → lists_difference k xs bufs ≡ Some d → lists_difference k (xs ++ ys) bufs ≡ Some d
differences-found k xs ys bufs d h = differences-append k xs ys bufs ∙ ap (λ (r : Option Difference). or_else r (lists_difference (k + length xs) ys bufs)) h

pub differences-behind : (k : ℕ) (xs ys bufs : List (List ℤ)) → lists_difference k xs bufs ≡ None → lists_difference k (xs ++ ys) bufs ≡ lists_difference (k + length xs) ys bufs
differences-behind k xs ys bufs h = differences-append k xs ys bufs ∙ ap (λ (r : Option Difference). or_else r (lists_difference (k + length xs) ys bufs)) h

-- ---- no difference

pub none-first : {A : Type 0} (a b : Option A) → or_else a b ≡ None → a ≡ None
none-first None b e = refl
none-first (Some x) b e = absurd cc

pub none-second : {A : Type 0} (a b : Option A) → or_else a b ≡ None → b ≡ None
none-second None b e = e
none-second (Some x) b e = absurd cc

pub none-is : {A : Type 0} (r : Option A) → is_some r ≡ false → r ≡ None
none-is None e = refl
none-is (Some x) e = absurd (false≢true (sym e))

pub some-first : {A : Type 0} (r s : Option A) → is_some r ≡ true → r ≡ or_else r s
some-first None s e = absurd (false≢true e)
some-first (Some x) s e = refl

none-when : {A : Type 0} (b : Bool) (x : A) → when (not b) x ≡ None → b ≡ true
none-when true x e = refl
none-when false x e = absurd cc

none-then : {A B : Type 0} (a : Option A) (f : A → B) → then_do a (λ x. Some (f x)) ≡ None → a ≡ None
none-then None f e = refl
none-then (Some x) f e = absurd cc

eq-true : (x y : ℤ) → not (int_eq x y) ≡ false → x ≡ y
eq-true x y h = grind (arith, Decides-int_eq x y)

-- a list that has no difference is as it should be
pub no-difference : (k : ℕ) (ys xs : List ℤ) → list_difference k ys xs ≡ None → xs ≡ ys
no-difference k ys xs h =
    let cells : first_unlike ys xs ≡ None = none-then (first_unlike ys xs) (λ x. Cell k x (cell xs x) (cell ys x)) (none-first _ (when (not (nat_eq (length xs) (length ys))) (Long k (length xs) (min (length ys) (2 ^ 64 - 1)))) h) in
    let long : length xs ≡ length ys =
    eqb-true (length xs) (length ys) (none-when (nat_eq (length xs) (length ys)) (Long k (length xs) (min (length ys) (2 ^ 64 - 1))) (none-second (then_do (first_unlike ys xs) (λ x. Some (Cell k x (cell xs x) (cell ys x)))) _ h)) in
    ext_get_or (pos 0) xs ys long
    (λ i l. eq-true (cell xs i) (cell ys i) (first_from-none (λ x. not (int_eq (cell xs x) (cell ys x))) 0 (min (length xs) (length ys)) i cells (omega arith) (omega (arith, l, long))))

pub differences-first : (k : ℕ) (x : List ℤ) (xs bufs : List (List ℤ)) → lists_difference k (x ∷ xs) bufs ≡ None → nth bufs k ≡ x
differences-first k x xs bufs h = no-difference k x (nth bufs k) (none-first _ (lists_difference (suc k) xs bufs) h)

pub differences-rest : (k : ℕ) (x : List ℤ) (xs bufs : List (List ℤ)) → lists_difference k (x ∷ xs) bufs ≡ None → lists_difference (suc k) xs bufs ≡ None
differences-rest k x xs bufs h = none-second (list_difference k x (nth bufs k)) _ h

same-from : (k : ℕ) (bs bufs : List (List ℤ)) → lists_difference k bs bufs ≡ None → (j : ℕ) → j < length bs → nth bufs (k + j) ≡ nth bs j
same-from k [] bufs h j l = absurd (omega arith)
same-from k (b ∷ bs) bufs h zero l = ap (nth bufs) (omega arith) ∙ differences-first k b bs bufs h
same-from k (b ∷ bs) bufs h (suc j) l = ap (nth bufs) (omega arith) ∙ same-from (suc k) bs bufs (differences-rest k b bs bufs h) j (omega arith)

-- as many buffers as there should be, none of which differs, are the buffers
pub same-buffers : (bs : List Buffer) (bufs : List (List ℤ)) → first_difference 0 bs bufs ≡ None → length bufs ≡ length bs → bufs ≡ map written bs
same-buffers bs bufs h l =
    let n : length (map written bs) ≡ length bs = length-map bs written in
    ext_get_or [] bufs (map written bs) (omega arith)
    (λ j b. ap (nth bufs) (omega arith) ∙ same-from 0 (map written bs) bufs (sym (differences-written 0 bs bufs) ∙ h) j (omega (arith, b)))

-- ---- a walk through two lists

-- the first x cells are equal
abbrev pub AreSame : List ℤ → List ℤ → ℕ → Type 0
AreSame xs ys x = (k : ℕ) → k < x → int_eq (cell xs k) (cell ys k) ≡ true

pub same-more : (xs ys : List ℤ) (x : ℕ) (a b : ℤ) → AreSame xs ys x → a ≡ cell xs x → b ≡ cell ys x → int_eq a b ≡ true → AreSame xs ys (x + 1)
same-more xs ys x a b h p q e k l = go (cases_eq k x)
  where
    go : ((k ≡ x) ⊎ (k ≡ x → ⊥)) → int_eq (cell xs k) (cell ys k) ≡ true
    go (inl r) = ap₂ int_eq (ap (cell xs) r ∙ sym p) (ap (cell ys) r ∙ sym q) ∙ e
    go (inr r) = h k (omega (arith, l, r))

pub unlike-here : (k x : ℕ) (ys xs : List ℤ) (a b : ℤ) → AreSame xs ys x → x < length xs → x < length ys → a ≡ cell xs x → b ≡ cell ys x → int_eq a b ≡ false → Some (Cell k x a b) ≡ list_difference k ys xs
unlike-here k x ys xs a b h m n p q e =
    let f : first_unlike ys xs ≡ Some x =
    first_from-is (λ x. not (int_eq (cell xs x) (cell ys x))) 0 (min (length xs) (length ys)) x (omega arith) (omega (arith, m, n)) (ap not (ap₂ int_eq (sym p) (sym q) ∙ e)) (λ k _ l. ap not (h k l)) in
    ap₂ (λ (c d : ℤ). Some (Cell k x c d)) p q
    ∙ sym (ap (λ (r : Option ℕ). or_else (then_do r (λ x. Some (Cell k x (cell xs x) (cell ys x)))) (ends k (length xs) (length ys))) f)

first_from-never : (t : ℕ → Bool) (k n : ℕ) → ((x : ℕ) → k ≤ x → x < k + n → t x ≡ false) → first_from t k n ≡ None
first_from-never t k zero h = refl
first_from-never t k (suc n) h =
    ap (λ (b : Bool). cond b (Some k) (first_from t (suc k) n)) (h k (omega arith) (omega arith)) ∙ first_from-never t (suc k) n (λ x a b. h x (omega (arith, a)) (omega (arith, b)))

pub same-common : (k x : ℕ) (ys xs : List ℤ) → AreSame xs ys x → min (length xs) (length ys) ≤ x → list_difference k ys xs ≡ ends k (length xs) (length ys)
same-common k x ys xs h l =
    ap (λ (r : Option ℕ). or_else (then_do r (λ x. Some (Cell k x (cell xs x) (cell ys x)))) (ends k (length xs) (length ys)))
    (first_from-never (λ x. not (int_eq (cell xs x) (cell ys x))) 0 (min (length xs) (length ys)) (λ j _ b. ap not (h j (omega (arith, b, l)))))

pub ends-unlike : (k a b : ℕ) → (a ≡ b → ⊥) → b < 2 ^ 64 → Some (Long k a b) ≡ ends k a b
ends-unlike k a b n l =
    ap (λ (c : ℕ). Some (Long k a c)) (omega (arith, l)) ∙ ap (λ (t : Bool). when (not t) (Long k a (min b (2 ^ 64 - 1)))) (sym (ne_eqb a b n))

pub ends-same : (k a b : ℕ) → a ≡ b → None ≡ ends k a b
ends-same k a b e = ap (λ (t : Bool). when (not t) (Long k a (min b (2 ^ 64 - 1)))) (sym (eq-eqb a b e))

-- the difference from one of some lists
pub difference-of : (lists : List (List ℤ)) (k place : ℕ) (ys : List ℤ) (bufs : List (List ℤ)) (found : Option Difference) → ys ≡ get_or lists k [] → found ≡ list_difference place ys (nth bufs place)
    → found ≡ list_difference place (get_or lists k []) (nth bufs place)
difference-of lists k place ys bufs found e f = f ∙ ap (λ (l : List ℤ). list_difference place l (nth bufs place)) e

-- ---- a walk through lists that are made of other things

module _ {X : Type 0} (n : ℕ) (f : X → List ℤ) (xs : List X) (bufs : List (List ℤ)) where
  -- what stands before number i, where the lists are those of the buffers from n on
  pub record ArePassed (i place : ℕ) : Type 0 where
    pub counted : place ≡ n + i
    pub same : lists_difference n (map f (take i xs)) bufs ≡ None

  pub passed-none : (place : ℕ) → place ≡ n → ArePassed 0 place
  passed-none place e = record { counted = omega (arith, e); same = refl }

  module _ (i place : ℕ) (d : X) (h : i < length xs) (o : ArePassed i place) (found : Option Difference) (q : found ≡ list_difference place (f (get_or xs i d)) (nth bufs place)) where
    before : n + length (map f (take i xs)) ≡ place
    before = omega (arith, o.counted, length-map (take i xs) f, length-take-le i xs (omega arith))

    pub passed-more : is_some found ≡ false → ArePassed (i + 1) (place + 1)
    passed-more s = record {
      counted = omega (arith, o.counted);
      same =
          ap (λ (l : List X). lists_difference n (map f l) bufs) (take_more xs i d h)
          ∙ ap (λ (l : List (List ℤ)). lists_difference n l bufs) (map-append f (take i xs) (get_or xs i d ∷ []))
          ∙ differences-behind n (map f (take i xs)) (f (get_or xs i d) ∷ []) bufs o.same
          ∙ ap (λ (k : ℕ). lists_difference k (f (get_or xs i d) ∷ []) bufs) before
          ∙ ap (λ (r : Option Difference). or_else r None) (sym q ∙ none found s);
    }
      where
        none : (r : Option Difference) → is_some r ≡ false → r ≡ None
        none None s = refl
        none (Some x) s = absurd (false≢true (sym s))

    pub passed-found : is_some found ≡ true → found ≡ lists_difference n (map f xs) bufs
    passed-found s =
        sym (ap (λ (l : List X). lists_difference n (map f l) bufs) (sym (take-append-drop i xs))
        ∙ ap (λ (l : List (List ℤ)). lists_difference n l bufs) (map-append f (take i xs) (drop i xs))
        ∙ differences-behind n (map f (take i xs)) (map f (drop i xs)) bufs o.same
        ∙ ap (λ (k : ℕ). lists_difference k (map f (drop i xs)) bufs) before
        ∙ ap (λ (l : List X). lists_difference place (map f l) bufs) (drop_more xs i d h)
        ∙ ap (λ (r : Option Difference). or_else r (lists_difference (suc place) (map f (drop (i + 1) xs)) bufs)) (sym q)
        ∙ some found s)
      where
        some : (r : Option Difference) → is_some r ≡ true → or_else r (lists_difference (suc place) (map f (drop (i + 1) xs)) bufs) ≡ r
        some None s = absurd (false≢true s)
        some (Some x) s = refl

  pub passed-all : (i place : ℕ) → length xs ≤ i → ArePassed i place → None ≡ lists_difference n (map f xs) bufs
  passed-all i place h o = sym o.same ∙ ap (λ (l : List X). lists_difference n (map f l) bufs) (take_all i xs h)

-- ---- a walk through lists

module _ (first : ℕ) (lists bufs : List (List ℤ)) where
  -- in front of number i no list differs
  pub record AreAlike (i : ℕ) : Type 0 where
    pub left : lists_difference first lists bufs ≡ lists_difference (first + i) (drop i lists) bufs

  pub alike-none : AreAlike 0
  alike-none = record { left = ap (λ (k : ℕ). lists_difference k lists bufs) (omega arith) }

  module _ (i : ℕ) (h : i < length lists) (a : AreAlike i) (found : Option Difference) (f : found ≡ list_difference (first + i) (get_or lists i []) (nth bufs (first + i))) where
    split : lists_difference first lists bufs ≡ or_else found (lists_difference (first + (i + 1)) (drop (i + 1) lists) bufs)
    split =
        a.left
        ∙ ap (λ (l : List (List ℤ)). lists_difference (first + i) l bufs) (drop_more lists i [] h)
        ∙ ap₂ (λ (r : Option Difference) (k : ℕ). or_else r (lists_difference k (drop (i + 1) lists) bufs)) (sym f) (omega arith)

    pub alike-more : is_some found ≡ false → AreAlike (i + 1)
    alike-more s = record { left = split ∙ ap (λ (r : Option Difference). or_else r (lists_difference (first + (i + 1)) (drop (i + 1) lists) bufs)) (none-is found s) }

    pub alike-found : is_some found ≡ true → found ≡ lists_difference first lists bufs
    alike-found s = some-first found (lists_difference (first + (i + 1)) (drop (i + 1) lists) bufs) s ∙ sym split

  pub alike-all : (i : ℕ) → length lists ≤ i → AreAlike i → None ≡ lists_difference first lists bufs
  alike-all i h a = sym (a.left ∙ ap (λ (l : List (List ℤ)). lists_difference (first + i) l bufs) (drop_all i lists h))
