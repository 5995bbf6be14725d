-- What a loop over values that don't fall keeps: runs of equal values.
use Rattle.std.specs.Prelude.{ℕ, zero, suc, ◌-◌, max, ℤ, List, nat_eq, if◌then◌else◌}
use Rattle.std.specs.Ordering.{int_eq}
use Rattle.us_query_loops.specs.Sorted.{place_at}

-- the value of the last of the x entries passed, or `none`
abbrev pub last_at : ℤ → (ℕ → ℤ) → ℕ → ℤ
last_at none value zero = none
last_at none value (suc x) = value x

-- the rank at which the run of the last entry passed began
abbrev pub start_at : ℤ → (ℕ → ℤ) → ℕ → ℕ
start_at none value zero = 0
start_at none value (suc x) = if int_eq (value x) (last_at none value x) then start_at none value x else x

-- how many entries of its run were passed with the last one
abbrev pub so_far : ℤ → (ℕ → ℤ) → ℕ → ℕ
so_far none value x = x - start_at none value x

-- the longest run among the entries passed
abbrev pub most_at : ℤ → (ℕ → ℤ) → ℕ → ℕ
most_at none value zero = 0
most_at none value (suc x) = max (most_at none value x) (so_far none value (suc x))

-- how many entries were passed of the run that began at g
abbrev pub length_at : ℤ → (ℕ → ℤ) → ℕ → ℕ → ℕ
length_at none value zero g = 0
length_at none value (suc x) g = if nat_eq (start_at none value (suc x)) g then so_far none value (suc x) else length_at none value x g

-- a column that gets a number at the place of each rank passed
abbrev pub filled_at : List ℕ → (ℕ → ℕ) → ℕ → ℕ → ℕ
filled_at places f zero y = 0
filled_at places f (suc x) y = if nat_eq (place_at places x) y then f x else filled_at places f x y
