-- Tests along lists of columns of the program and of plain columns.
use Rattle.std.proofs.Common.{◌≡◌, ℕ, ◌+◌, ◌<◌, ◌≤◌, List, [], ◌∷◌, map, length, get_or, Bool, true, false, cond, ltb, not, ◌||◌, refl, sym, ap, ap₂, ◌∙◌, arith, Some, None}
use Rattle.std.specs.Prelude.{unwrap_or}
use Rattle.std.specs.List.{list_any, position_or_len, position}
use Rattle.std.proofs.lemmas.Bool.Decides.{nat_tests}
use Rattle.std.proofs.lemmas.List.{length-map, get_or-map}
use Rattle.std.proofs.lemmas.List.Sums.{prefix_len-le-length}
use Rattle.us_format.specs.Lists.{nth}
use Rattle.us_format.specs.Declaration.{Column}

-- ---- tests of mapped lists

pub first-map : {A B : Type 0} (f : A → B) (p : B → Bool) (q : A → Bool) → ((x : A) → q x ≡ p (f x)) → (xs : List A) → position_or_len q xs ≡ position_or_len p (map f xs)
first-map f p q same [] = refl
first-map f p q same (x ∷ xs) = ap₂ (λ (b : Bool) (n : ℕ). cond (not b) (1 + n) 0) (same x) (first-map f p q same xs)

pub position-map : {A B : Type 0} (f : A → B) (p : B → Bool) (q : A → Bool) → ((x : A) → q x ≡ p (f x)) → (xs : List A) → position q xs ≡ position p (map f xs)
position-map f p q same xs = ap₂ (λ (n m : ℕ). cond (ltb n m) (Some n) None) (first-map f p q same xs) (sym (length-map xs f))

pub any-map : {A B : Type 0} (f : A → B) (p : B → Bool) (xs : List A) → list_any (λ x. p (f x)) xs ≡ list_any p (map f xs)
any-map f p [] = refl
any-map f p (x ∷ xs) = ap (λ b. p (f x) || b) (any-map f p xs)

-- ---- positions

end_is : (n m : ℕ) (b : Bool) → ltb n m ≡ b → n ≤ m → unwrap_or (cond b (Some n) None) m ≡ n
end_is n m true e l = refl
end_is n m false e l = grind (arith, nat_tests)

pub position-else : {A : Type 0} (p : A → Bool) (xs : List A) → unwrap_or (position p xs) (length xs) ≡ position_or_len p xs
position-else p xs = end_is (position_or_len p xs) (length xs) (ltb (position_or_len p xs) (length xs)) refl (prefix_len-le-length (λ x. not (p x)) xs)

some_is : (n m : ℕ) (b : Bool) (j : ℕ) → ltb n m ≡ b → cond b (Some n) None ≡ Some j → (n ≡ j) × (j < m)
some_is n m true j e h = let q : n ≡ j = cc in (q, grind (arith, nat_tests))
some_is n m false j e h = absurd cc

none_is : (n m : ℕ) (b : Bool) → ltb n m ≡ b → cond b (Some n) None ≡ None → m ≤ n
none_is n m true e h = absurd cc
none_is n m false e h = grind (arith, nat_tests)

pub position-some : {A : Type 0} (p : A → Bool) (xs : List A) (j : ℕ) → position p xs ≡ Some j → (position_or_len p xs ≡ j) × (j < length xs)
position-some p xs j h = some_is (position_or_len p xs) (length xs) (ltb (position_or_len p xs) (length xs)) j refl h

any_before : {A : Type 0} (p : A → Bool) (xs : List A) → position_or_len p xs < length xs → list_any p xs ≡ true
any_before p [] l = absurd (omega arith)
any_before p (x ∷ xs) l = go (p x) refl (any_before p xs)
  where
    go : (b : Bool) → p x ≡ b → (position_or_len p xs < length xs → list_any p xs ≡ true) → (b || list_any p xs) ≡ true
    go true e ih = refl
    go false e ih = ih (let q : position_or_len p (x ∷ xs) ≡ 1 + position_or_len p xs = ap (λ b. cond (not b) (1 + position_or_len p xs) 0) e in omega (arith, q))

none_before : {A : Type 0} (p : A → Bool) (xs : List A) → length xs ≤ position_or_len p xs → list_any p xs ≡ false
none_before p [] l = refl
none_before p (x ∷ xs) l = go (p x) refl (none_before p xs)
  where
    go : (b : Bool) → p x ≡ b → (length xs ≤ position_or_len p xs → list_any p xs ≡ false) → (b || list_any p xs) ≡ false
    go true e ih = let q : position_or_len p (x ∷ xs) ≡ 0 = ap (λ b. cond (not b) (1 + position_or_len p xs) 0) e in absurd (omega (arith, q))
    go false e ih = ih (let q : position_or_len p (x ∷ xs) ≡ 1 + position_or_len p xs = ap (λ b. cond (not b) (1 + position_or_len p xs) 0) e in omega (arith, q))

pub position-any : {A : Type 0} (p : A → Bool) (xs : List A) (j : ℕ) → position p xs ≡ Some j → list_any p xs ≡ true
position-any p xs j h = let q = position-some p xs j h in any_before p xs (omega (arith, q.0, q.1))

pub position-none : {A : Type 0} (p : A → Bool) (xs : List A) → position p xs ≡ None → list_any p xs ≡ false
position-none p xs h = none_before p xs (none_is (position_or_len p xs) (length xs) (ltb (position_or_len p xs) (length xs)) refl h)

-- the pack with a number
pub pack-there : {A : Type 0} (f : A → Column) (packs : List (List A)) (j : ℕ) (pack : List A) → j < length packs → pack ≡ get_or packs j pack → map f pack ≡ nth (map (map f) packs) j
pack-there f packs j pack l is = ap (map f) is ∙ sym (get_or-map (map f) packs j pack [] l)
