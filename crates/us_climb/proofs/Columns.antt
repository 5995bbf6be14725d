-- Tests along lists of columns of the program and of plain columns.
use Rattle.std.proofs.Common.{◌≡◌, ℕ, ◌+◌, ◌≤◌, List, [], ◌∷◌, map, length, Bool, true, false, cond, ltb, not, ◌||◌, refl, sym, ap, ap₂, arith, Some, None}
use Rattle.std.specs.Prelude.{unwrap_or}
use Rattle.std.specs.List.{list_any, position_or_len, position}
use Rattle.std.proofs.lemmas.Bool.Decides.{nat_tests}
use Rattle.std.proofs.lemmas.List.{length-map}
use Rattle.std.proofs.lemmas.List.Sums.{prefix_len-le-length}
use Rattle.us_format.specs.Declaration.{Column, same_column}
use Rattle.us_format.specs.Packs.{in_pack}
use Rattle.us_decl.specs.declared.column.Column as columns
use Rattle.us_judge.specs.Views.{column_of}

-- ---- tests of mapped lists

pub any-map : {A B : Type 0} (f : A → B) (p : B → Bool) (xs : List A) → list_any (λ x. p (f x)) xs ≡ list_any p (map f xs)
any-map f p [] = refl
any-map f p (x ∷ xs) = ap (λ b. p (f x) || b) (any-map f p xs)

pub first-map : {A B : Type 0} (f : A → B) (p : B → Bool) (q : A → Bool) → ((x : A) → q x ≡ p (f x)) → (xs : List A) → position_or_len q xs ≡ position_or_len p (map f xs)
first-map f p q same [] = refl
first-map f p q same (x ∷ xs) = ap₂ (λ (b : Bool) (n : ℕ). cond (not b) (1 + n) 0) (same x) (first-map f p q same xs)

pub position-map : {A B : Type 0} (f : A → B) (p : B → Bool) (q : A → Bool) → ((x : A) → q x ≡ p (f x)) → (xs : List A) → position q xs ≡ position p (map f xs)
position-map f p q same xs =
    ap₂ (λ (n m : ℕ). cond (ltb n m) (Some n) None) (first-map f p q same xs) (sym (length-map xs f))

-- ---- positions

end_is : (n m : ℕ) (b : Bool) → ltb n m ≡ b → n ≤ m → unwrap_or (cond b (Some n) None) m ≡ n
end_is n m true e l = refl
end_is n m false e l = grind (arith, nat_tests)

pub position-else : {A : Type 0} (p : A → Bool) (xs : List A) → unwrap_or (position p xs) (length xs) ≡ position_or_len p xs
position-else p xs = end_is (position_or_len p xs) (length xs) (ltb (position_or_len p xs) (length xs)) refl (prefix_len-le-length (λ x. not (p x)) xs)

-- ---- packs

pub pack-map : (c : Column) (pack : List columns.Column) → list_any (λ b. same_column c (column_of b)) pack ≡ in_pack c (map column_of pack)
pack-map c pack = any-map column_of (same_column c) pack
