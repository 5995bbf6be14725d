-- The least of sizes, from what it says of them, and from sizes as they are told.
use Rattle.std.proofs.Common.{◌≡◌, ℕ, zero, suc, ◌+◌, ◌<◌, ◌≤◌, List, [], ◌∷◌, map, length, get_or, Bool, true, false, ◌&&◌, cond, refl, sym, ap, ap₂, subst, ◌∙◌, inl, inr, arith}
use Rattle.std.specs.Prelude.{Option, Some, None, MatchOption, nat_le, nat_lt}
use Rattle.std.specs.List.{list_all, position_or_len}
use Rattle.std.proofs.Math.Nat.{min-eq_left, min-le_left, le-min}
use Rattle.std.proofs.lemmas.Bool.{lt-ltb, le-ltb, le-leb}
use Rattle.std.proofs.lemmas.Bool.Decides.{leb_tells}
use Rattle.std.proofs.lemmas.List.{length-map}
use Rattle.std.proofs.lemmas.List.Folds.{list_all_at}
use Rattle.std.proofs.lemmas.List.Sums.{position_or_len_is}
use Rattle.us_format.specs.Reading.{limit}
use Rattle.us_advise.specs.Least.{AreAbove, IsLeastAt, is_least, least, told}

-- ---- tests

greater : (a b : ℕ) → b < a → nat_le a b ≡ false
greater a b h = elim (leb_tells a b) [ inl w ↦ absurd (omega (arith, w.1, h)) | inr w ↦ w.0 ]

and-no : (b : Bool) → (b && false) ≡ false
and-no true = refl
and-no false = refl

each-passes : (test : ℕ → Bool) (ns : List ℕ) → ((j : ℕ) → j < length ns → test (get_or ns j 0) ≡ true) → list_all test ns ≡ true
each-passes test [] h = refl
each-passes test (n ∷ ns) h = ap₂ (λ (x y : Bool). x && y) (h 0 (omega arith)) (each-passes test ns (λ j b. h (suc j) (omega (arith, b))))

-- ---- the first of the least

is-least : (ns : List ℕ) (k : ℕ) → IsLeastAt ns k → is_least ns (get_or ns k 0) ≡ true
is-least ns k h =
    ap₂ (λ (x y : Bool). x && y) (le-leb (get_or ns k 0) limit h.within) (each-passes (nat_le (get_or ns k 0)) ns (λ j b. le-leb (get_or ns k 0) (get_or ns j 0) (h.smallest j b)))

not-least : (ns : List ℕ) (k j : ℕ) → IsLeastAt ns k → j < k → is_least ns (get_or ns j 0) ≡ false
not-least ns k j h b =
    ap (λ (x : Bool). nat_le (get_or ns j 0) limit && x) (list_all_at (nat_le (get_or ns j 0)) ns k 0 h.place (greater (get_or ns j 0) (get_or ns k 0) (h.first j b))) ∙ and-no (nat_le (get_or ns j 0) limit)

pub least-some : (ns : List ℕ) (k : ℕ) → IsLeastAt ns k → least ns ≡ Some k
unfolding least
least-some ns k h =
    let e : position_or_len (is_least ns) ns ≡ k = position_or_len_is (is_least ns) ns k 0 (omega (arith, h.place)) (λ j b. not-least ns k j h b) (λ _. is-least ns k h) in
    ap (λ (i : ℕ). cond (nat_lt i (length ns)) (Some i) None) e ∙ ap (λ (b : Bool). cond b (Some k) None) (lt-ltb k (length ns) h.place)

pub least-none : (ns : List ℕ) → AreAbove ns → least ns ≡ None
unfolding least
least-none ns h =
    let e : position_or_len (is_least ns) ns ≡ length ns =
    position_or_len_is (is_least ns) ns (length ns) 0 (omega arith) (λ j b. ap (λ (x : Bool). x && list_all (nat_le (get_or ns j 0)) ns) (greater (get_or ns j 0) limit (h j b))) (λ b. absurd (omega (arith, b))) in
    ap (λ (i : ℕ). cond (nat_lt i (length ns)) (Some i) None) e ∙ ap (λ (b : Bool). cond b (Some (length ns)) None) (le-ltb (length ns) (length ns) (omega arith))

-- so it is the place that is said
pub least-is : (ns : List ℕ) (best : Option ℕ) → MatchOption best (AreAbove ns) (IsLeastAt ns) → best ≡ least ns
least-is ns None h = sym (least-none ns h)
least-is ns (Some k) h = sym (least-some ns k h)

-- ---- sizes as they are told

told-at : (ns : List ℕ) (k : ℕ) → get_or (map told ns) k 0 ≡ told (get_or ns k 0)
told-at [] k = refl
told-at (n ∷ ns) zero = refl
told-at (n ∷ ns) (suc k) = told-at ns k

told-below : (n : ℕ) → told n ≤ n
told-below n = min-le_left n (limit + 1)

-- a size that is told as one within the limit is that
told-small : (n : ℕ) → told n ≤ limit → told n ≡ n
told-small n h = elim (leb_tells n limit) [ inl w ↦ min-eq_left (omega (arith, w.1)) | inr w ↦ absurd (omega (arith, h, large w.1)) ]
  where
    large : limit < n → limit + 1 ≤ told n
    large b = le-min (omega (arith, b)) (omega arith)

above-told : (ns : List ℕ) → AreAbove (map told ns) → AreAbove ns
above-told ns h = λ j b. omega (arith, h j (omega (arith, b, length-map ns told)), told-at ns j, told-below (get_or ns j 0))

least-told : (ns : List ℕ) (k : ℕ) → IsLeastAt (map told ns) k → IsLeastAt ns k
least-told ns k h =
    let is : get_or (map told ns) k 0 ≡ get_or ns k 0 = told-at ns k ∙ told-small (get_or ns k 0) (omega (arith, h.within, told-at ns k)) in
    record {
      place = omega (arith, h.place, length-map ns told);
      within = omega (arith, h.within, is);
      smallest = λ j b. omega (arith, h.smallest j (omega (arith, b, length-map ns told)), is, told-at ns j, told-below (get_or ns j 0));
      first = λ j b. omega (arith, h.first j b, is, told-at ns j, told-below (get_or ns j 0));
    }

pub by-told : (ns : List ℕ) (best : Option ℕ) → MatchOption best (AreAbove (map told ns)) (IsLeastAt (map told ns)) → MatchOption best (AreAbove ns) (IsLeastAt ns)
by-told ns None h = above-told ns h
by-told ns (Some k) h = least-told ns k h

-- the same of what is told of each item
pub map-twice : {A : Type 0} (f : A → ℕ) (g : ℕ → ℕ) (xs : List A) → map (λ x. g (f x)) xs ≡ map g (map f xs)
map-twice f g [] = refl
map-twice f g (x ∷ xs) = ap (λ (l : List ℕ). g (f x) ∷ l) (map-twice f g xs)

pub by-told-of : {A : Type 0} (f : A → ℕ) (xs : List A) (sizes : List ℕ) (best : Option ℕ) → sizes ≡ map (λ x. told (f x)) xs → MatchOption best (AreAbove sizes) (IsLeastAt sizes)
    → MatchOption best (AreAbove (map f xs)) (IsLeastAt (map f xs))
by-told-of f xs sizes best e h =
    by-told (map f xs) best (subst (λ (l : List ℕ). MatchOption best (AreAbove l) (IsLeastAt l)) (e ∙ map-twice f told xs) h)
