-- The order that an `order` writes.
use Rattle.std.specs.Prelude.{ℕ, Bool, true, false, cond, nat_lt, List, [], ◌∷◌, slice_index_or, ℤ, pos}
use Rattle.std.specs.List.{range_with_len}
use lib.Signed.{lt_z}

-- x before y: by the first key that tells them apart, else by number
abbrev pub before : List (List ℤ) → ℕ → ℕ → Bool
before [] x y = nat_lt x y
before (k ∷ ks) x y =
    let a = slice_index_or k x (pos 0) in
    let b = slice_index_or k y (pos 0) in
    cond (lt_z a b) true (cond (lt_z b a) false (before ks x y))

abbrev pub insert_by : (ℕ → ℕ → Bool) → ℕ → List ℕ → List ℕ
insert_by less x [] = x ∷ []
insert_by less x (y ∷ ys) = cond (less x y) (x ∷ y ∷ ys) (y ∷ insert_by less x ys)

abbrev pub sort_by : (ℕ → ℕ → Bool) → List ℕ → List ℕ
sort_by less [] = []
sort_by less (x ∷ xs) = insert_by less x (sort_by less xs)

-- the numbers below n, in ascending order of their keys
abbrev pub ordered : List (List ℤ) → ℕ → List ℕ
ordered keys n = sort_by (before keys) (range_with_len 0 n)
