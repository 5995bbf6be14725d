-- A loop that writes over each item of a list.
use Rattle.std.proofs.Common.{◌≡◌, ℕ, zero, suc, ◌+◌, ◌<◌, ◌≤◌, List, [], ◌∷◌, ◌++◌, map, length, get_or, take, drop, set, sym, refl, ap, ap₂, ◌∙◌, arith}
use Rattle.std.proofs.lemmas.List.{append-nil, drop_all, drop_more, get_or_at, get_or_default, length-map, length-take-le, take_all}
use Rattle.std.proofs.lemmas.List.Edits.{map_over_more}
use Rattle.us_format.specs.Lists.{head, tail}

pub head-drop : (k : ℕ) (cs : List ℕ) → head (drop k cs) ≡ get_or cs k 0
head-drop zero [] = refl
head-drop zero (c ∷ cs) = refl
head-drop (suc k) [] = refl
head-drop (suc k) (c ∷ cs) = head-drop k cs

pub tail-drop : (k : ℕ) (cs : List ℕ) → tail (drop k cs) ≡ drop (k + 1) cs
tail-drop k cs = let e : suc k ≡ k + 1 = omega arith in by_suc k cs ∙ ap (λ (n : ℕ). drop n cs) e
  where
    by_suc : (k : ℕ) (cs : List ℕ) → tail (drop k cs) ≡ drop (suc k) cs
    by_suc zero [] = refl
    by_suc zero (c ∷ cs) = refl
    by_suc (suc k) [] = refl
    by_suc (suc k) (c ∷ cs) = by_suc k cs

pub untouched : {A : Type 0} (f : A → A) (xs ys : List A) (i : ℕ) (d : A) → i < length xs → ys ≡ map f (take i xs) ++ drop i xs → get_or ys i d ≡ get_or xs i d
untouched f xs ys i d h e =
    ap (λ l. get_or l i d) (e ∙ ap (λ l. map f (take i xs) ++ l) (drop_more xs i d h))
    ∙ get_or_at (map f (take i xs)) (get_or xs i d) (drop (i + 1) xs) d i (length-map (take i xs) f ∙ length-take-le i xs (omega arith))

-- g is what the loop writes over an item, f what it is to write
pub step_over : {A : Type 0} (f g : A → A) (xs ys : List A) (i : ℕ) (d : A) → i < length xs → ys ≡ map f (take i xs) ++ drop i xs → g (get_or xs i d) ≡ f (get_or xs i d)
    → set ys i (g (get_or ys i d)) ≡ map f (take (i + 1) xs) ++ drop (i + 1) xs
step_over f g xs ys i d h e same =
    ap (λ z. set ys i (g z)) (untouched f xs ys i d h e) ∙ ap (set ys i) same
    ∙ map_over_more f xs ys i (get_or xs i d) h e (sym (untouched f xs ys i (get_or xs i d) h e ∙ get_or_default xs i (get_or xs i d) d h))

pub stepped-all : {A : Type 0} (f : A → A) (xs ys : List A) (i : ℕ) → length xs ≤ i → ys ≡ map f (take i xs) ++ drop i xs → ys ≡ map f xs
stepped-all f xs ys i h e = e ∙ ap₂ (λ a b. map f a ++ b) (take_all i xs h) (drop_all i xs h) ∙ append-nil (map f xs)
