-- A walk over a list that looks for the first item which fails a test.
use Rattle.std.proofs.Common.{◌≡◌, ℕ, suc, ◌+◌, ◌<◌, ◌≤◌, List, [], ◌∷◌, ◌++◌, length, map, take, drop, get_or, Bool, true, false, refl, sym, ap, subst, ◌∙◌, add-one, arith}
use Rattle.std.specs.Prelude.{Some, None, slice_get, if◌then◌else◌}
use Rattle.std.proofs.Math.Seq.{drop-cons, take-suc}
use Rattle.std.proofs.Math.ListN.{drop_of_length-le}
use Rattle.std.proofs.lemmas.Option.{slice_get_within, get_or_from_slice_get, slice_get_read, slice_get-map}
use Rattle.std.proofs.lemmas.List.{take-map, length-map}
use Rattle.std.specs.Option.{option_map}
use Rattle.us_judge.specs.Acceptance.{first_failing}

-- the search over the whole list is that from the item k on
pub record Reaches {A : Type 0} (test : List A → A → Bool) (first : ℕ) (xs : List A) (k : ℕ) : Type 0 where
  pub is : first_failing test [] first xs ≡ first_failing test (take k xs) (first + k) (drop k xs)

pub reaches-start : {A : Type 0} (test : List A → A → Bool) (first : ℕ) (xs : List A) → Reaches test first xs 0
reaches-start test first xs = record { is = let e : first ≡ first + 0 = omega arith in ap (λ n. first_failing test [] n xs) e }

-- the item k, and what follows
split : {A : Type 0} (xs : List A) (k : ℕ) (x : A) → slice_get xs k ≡ Some x → drop k xs ≡ x ∷ drop (suc k) xs
split xs k x e = drop-cons xs k x (slice_get_within xs k x e) ∙ ap (λ y. y ∷ drop (suc k) xs) (get_or_from_slice_get xs k x x e)

pub longer : {A : Type 0} (xs : List A) (k : ℕ) (x : A) → slice_get xs k ≡ Some x → take (suc k) xs ≡ take k xs ++ (x ∷ [])
longer xs k x e = take-suc xs k x (slice_get_within xs k x e) ∙ ap (λ y. take k xs ++ (y ∷ [])) (get_or_from_slice_get xs k x x e)

-- the search from the item k on, by the test of this item
from_item : {A : Type 0} (test : List A → A → Bool) (first : ℕ) (xs : List A) (k : ℕ) (x : A) → slice_get xs k ≡ Some x
    → first_failing test (take k xs) (first + k) (drop k xs) ≡ (if test (take k xs) x then first_failing test (take k xs ++ (x ∷ [])) (suc (first + k)) (drop (suc k) xs) else Some (first + k))
from_item test first xs k x e = ap (λ ys. first_failing test (take k xs) (first + k) ys) (split xs k x e)

-- one item more passes
pub reaches-next : {A : Type 0} (test : List A → A → Bool) (first : ℕ) (xs : List A) (k : ℕ) (x : A) → slice_get xs k ≡ Some x → test (take k xs) x ≡ true → Reaches test first xs k → Reaches test first xs (k + 1)
reaches-next test first xs k x e is_true r =
    let number : suc (first + k) ≡ first + suc k = omega arith in
    subst (λ n. Reaches test first xs n) (sym (add-one k))
    (record {
      is = r.is
          ∙ from_item test first xs k x e
          ∙ ap (λ (b : Bool). if b then first_failing test (take k xs ++ (x ∷ [])) (suc (first + k)) (drop (suc k) xs) else Some (first + k)) is_true
          ∙ ap (λ ys. first_failing test ys (suc (first + k)) (drop (suc k) xs)) (sym (longer xs k x e))
          ∙ ap (λ n. first_failing test (take (suc k) xs) n (drop (suc k) xs)) number;
    })

-- an item fails
pub fails : {A : Type 0} (test : List A → A → Bool) (first : ℕ) (xs : List A) (k : ℕ) (x : A) → slice_get xs k ≡ Some x → test (take k xs) x ≡ false → Reaches test first xs k → Some (first + k) ≡ first_failing test [] first xs
fails test first xs k x e is_false r =
    sym (r.is ∙ from_item test first xs k x e
    ∙ ap (λ (b : Bool). if b then first_failing test (take k xs ++ (x ∷ [])) (suc (first + k)) (drop (suc k) xs) else Some (first + k)) is_false)

-- no item fails
pub passes : {A : Type 0} (test : List A → A → Bool) (first : ℕ) (xs : List A) (k : ℕ) → length xs ≤ k → Reaches test first xs k → None ≡ first_failing test [] first xs
passes test first xs k past r = sym (r.is ∙ ap (λ ys. first_failing test (take k xs) (first + k) ys) (drop_of_length-le xs past))

-- ---- the same, where the list is that of the program, seen through f

at_item : {A B : Type 0} (f : A → B) (xs : List A) (k : ℕ) (x : A) → k < length xs → x ≡ get_or xs k x → slice_get (map f xs) k ≡ Some (f x)
at_item f xs k x below is = slice_get-map f xs k ∙ ap (λ o. option_map f o) (slice_get_read xs (length xs) k x refl below is)

before_item : {A B : Type 0} (f : A → B) (test : List B → B → Bool) (xs : List A) (k : ℕ) (x : A) (b : Bool) → test (map f (take k xs)) (f x) ≡ b → test (take k (map f xs)) (f x) ≡ b
before_item f test xs k x b e = ap (λ ys. test ys (f x)) (take-map f k xs) ∙ e

pub next_item : {A B : Type 0} (f : A → B) (test : List B → B → Bool) (first : ℕ) (xs : List A) (k : ℕ) (x : A)
    → k < length xs → x ≡ get_or xs k x → test (map f (take k xs)) (f x) ≡ true → Reaches test first (map f xs) k → Reaches test first (map f xs) (k + 1)
next_item f test first xs k x below is e r = reaches-next test first (map f xs) k (f x) (at_item f xs k x below is) (before_item f test xs k x true e) r

pub failing_item : {A B : Type 0} (f : A → B) (test : List B → B → Bool) (first : ℕ) (xs : List A) (k : ℕ) (x : A)
    → k < length xs → x ≡ get_or xs k x → test (map f (take k xs)) (f x) ≡ false → Reaches test first (map f xs) k → Some (first + k) ≡ first_failing test [] first (map f xs)
failing_item f test first xs k x below is e r = fails test first (map f xs) k (f x) (at_item f xs k x below is) (before_item f test xs k x false e) r

pub no_item : {A B : Type 0} (f : A → B) (test : List B → B → Bool) (first : ℕ) (xs : List A) (k : ℕ) → length xs ≤ k → Reaches test first (map f xs) k → None ≡ first_failing test [] first (map f xs)
no_item f test first xs k past r = let h : length (map f xs) ≤ k = omega (arith, length-map xs f) in passes test first (map f xs) k h r
