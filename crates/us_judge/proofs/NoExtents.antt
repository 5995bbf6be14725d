-- Extents that are all 0.
use Rattle.std.proofs.Common.{◌≡◌, ℕ, zero, suc, ◌^◌, ◌≤◌, List, [], ◌∷◌, map, length, take, replicate, refl, ap, arith}
use Rattle.std.specs.List.{All}
use Rattle.std.proofs.lemmas.List.Elements.{All-nil, All-cons}

-- the first of some zeros, one for each item
pub zeros : {A : Type 0} (xs : List A) (n : ℕ) → length xs ≤ n → take {A = ℕ} (length xs) (replicate n 0) ≡ map (λ x. 0) xs
zeros [] n h = refl
zeros (x ∷ xs) zero h = absurd (omega arith)
zeros (x ∷ xs) (suc n) h = ap (λ ns. 0 ∷ ns) (zeros xs n (omega arith))

pub zeros-few : {A : Type 0} (xs : List A) → All (λ n. n ≤ 2 ^ 31) (map (λ x. 0) xs)
zeros-few [] = All-nil (λ n. n ≤ 2 ^ 31)
zeros-few (x ∷ xs) = All-cons (λ n. n ≤ 2 ^ 31) 0 (map (λ x. 0) xs) (omega arith) (zeros-few xs)

pub taken : {A : Type 0} (k : ℕ) (xs : List A) → k ≤ length xs → k ≡ length (take k xs)
taken zero xs h = refl
taken (suc k) [] h = absurd (omega arith)
taken (suc k) (x ∷ xs) h = ap suc (taken k xs (omega arith))
