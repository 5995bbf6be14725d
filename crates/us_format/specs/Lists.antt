-- Words on options and lists that the definitions share.
use Rattle.std.specs.Prelude.{ℕ, zero, suc, max, ℤ, pos, negsuc, List, [], ◌∷◌, ◌++◌, slice_index_or, Bool, true, false, not, ◌&&◌, ◌||◌, nat_eq, nat_lt, if◌then◌else◌, Option, Some, None}
use Rattle.std.specs.List.{count_by, filter, fold, list_any}

-- what f gives for the value, if there is one
abbrev pub then_do : {A B : Type 0} → Option A → (A → Option B) → Option B
then_do None f = None
then_do (Some a) f = f a

-- the first value, else the second
abbrev pub or_else : {A : Type 0} → Option A → Option A → Option A
or_else (Some a) b = Some a
or_else None b = b

-- the value, if the test holds
abbrev pub when : {A : Type 0} → Bool → A → Option A
when b a = if b then Some a else None

-- the first value that f gives along the list
abbrev pub first_of : {A B : Type 0} → (A → Option B) → List A → Option B
first_of f [] = None
first_of f (x ∷ xs) = or_else (f x) (first_of f xs)

-- the first of the n numbers from k on that passes the test
abbrev pub first_from : (ℕ → Bool) → ℕ → ℕ → Option ℕ
first_from test k zero = None
first_from test k (suc n) = if test k then Some k else first_from test (suc k) n

-- the list with this number, or the empty list
abbrev pub nth : {A : Type 0} → List (List A) → ℕ → List A
nth xs k = slice_index_or xs k []

-- the cell with this number, or 0
abbrev pub cell : List ℤ → ℕ → ℤ
cell xs x = slice_index_or xs x (pos 0)

-- the number itself, or 0 where it is negative
abbrev pub nat_of : ℤ → ℕ
nat_of (pos n) = n
nat_of (negsuc n) = 0

-- one list after the other
abbrev pub join : {A : Type 0} → List (List A) → List A
join [] = []
join (x ∷ xs) = x ++ join xs

-- whether a number is in a list
abbrev pub among : ℕ → List ℕ → Bool
among a = list_any (λ b. nat_eq a b)

-- whether no number is in a list twice
abbrev pub all_different : List ℕ → Bool
all_different [] = true
all_different (x ∷ xs) = not (among x xs) && all_different xs

-- the greatest number, 0 of the empty list
abbrev pub greatest : List ℕ → ℕ
greatest = fold max 0

-- the first number, or 0
abbrev pub head : List ℕ → ℕ
head [] = 0
head (c ∷ cs) = c

-- the numbers after the first
abbrev pub tail : List ℕ → List ℕ
tail [] = []
tail (c ∷ cs) = cs

-- whether the first list is lower: it is at the first place at which they differ
abbrev pub lower : List ℕ → List ℕ → Bool
lower [] [] = false
lower [] (y ∷ ys) = true
lower (x ∷ xs) [] = false
lower (x ∷ xs) (y ∷ ys) = nat_lt x y || (nat_eq x y && lower xs ys)

-- whether the lists are equal
abbrev pub same : List ℕ → List ℕ → Bool
same [] [] = true
same [] (y ∷ ys) = false
same (x ∷ xs) [] = false
same (x ∷ xs) (y ∷ ys) = nat_eq x y && same xs ys

-- each list once
abbrev pub different : List (List ℕ) → List (List ℕ)
different [] = []
different (x ∷ xs) = x ∷ filter (λ y. not (same x y)) (different xs)

-- how many of the lists are lower
abbrev pub rank : List (List ℕ) → List ℕ → ℕ
rank ns n = count_by (λ m. lower m n) ns
