-- What a loop over entries counts and writes, by how many entries it has taken.
use Rattle.std.specs.Prelude.{◌≡◌, ℕ, zero, suc, ◌+◌, ◌<◌, Bool, true, not, nat_eq, nat_lt, if◌then◌else◌, List, length, slice_index_or, ℤ, pos, negsuc}

-- ---- running numbers

-- whether entry x is the first, or has another key than the one before
abbrev pub is_new : (ℕ → ℕ) → ℕ → Bool
is_new keys zero = true
is_new keys (suc x) = not (nat_eq (keys (suc x)) (keys x))

-- how many of the first x entries pass
abbrev pub counted : (ℕ → Bool) → ℕ → ℕ
counted passes zero = 0
counted passes (suc x) = if passes x then counted passes x + 1 else counted passes x

-- how often the key is new among the first x entries
abbrev pub seen : (ℕ → ℕ) → ℕ → ℕ
seen keys x = counted (is_new keys) x

-- how many of the first x entries pass and stand below p
abbrev pub below : (ℕ → Bool) → (ℕ → ℕ) → ℕ → ℕ → ℕ
below new at zero p = 0
below new at (suc x) p = if new x then (if nat_lt (at x) p then below new at x p + 1 else below new at x p) else below new at x p

-- the key before entry x, or -1
abbrev pub before : (ℕ → ℕ) → ℕ → ℤ
before keys zero = negsuc 0
before keys (suc x) = pos (keys x)

-- one less, or -1
abbrev pub less_one : ℕ → ℤ
less_one zero = negsuc 0
less_one (suc n) = pos n

-- ---- marks

-- the mark in cell p after the first x entries: each new entry leaves the running number behind its place
abbrev pub marked : (ℕ → Bool) → (ℕ → ℕ) → ℕ → ℕ → ℕ
marked new at zero p = 0
marked new at (suc x) p = if new x then (if nat_eq (at x + 1) p then counted new (suc x) else marked new at x p) else marked new at x p

-- the greatest of the numbers at places before y
abbrev pub top : (ℕ → ℕ) → ℕ → ℕ
top f zero = 0
top f (suc y) = if nat_lt (f y) (top f y) then top f y else f y

-- ---- cells

-- cell y after the first x entries: those that write put f at their place, and a cell that none has written is 0
abbrev pub written : (ℕ → Bool) → (ℕ → ℕ) → (ℕ → ℤ) → ℕ → ℕ → ℤ
written writes place f zero y = pos 0
written writes place f (suc x) y = if writes x then (if nat_eq (place x) y then f x else written writes place f x y) else written writes place f x y

-- a list of m cells that are these numbers
pub record Table (cells : List ℤ) (m : ℕ) (f : ℕ → ℤ) : Type 0 where
  pub long : length cells ≡ m
  pub each : (y : ℕ) → y < m → slice_index_or cells y (pos 0) ≡ f y
