-- The laws.
use Rattle.std.specs.Prelude.{◌≡◌, ℕ, suc, ◌+◌, ◌<◌, ◌≤◌, Bool, true, nat_eq, if◌then◌else◌, List, slice_set, ℤ, pos}
use Rattle.us_running.specs.Running.{counted, seen, below, marked, top, written, Table}

-- the first n places don't fall
abbrev pub DoNotFall : (ℕ → ℕ) → ℕ → Type 0
DoNotFall at n = (i j : ℕ) → i ≤ j → j < n → at i ≤ at j

-- ---- running numbers

-- after an entry the running number is at least 1 and at most the number of entries
abbrev pub NumbersAreSmall : Type 0
NumbersAreSmall = (keys : ℕ → ℕ) (x : ℕ) → (1 ≤ seen keys (suc x)) × (seen keys x ≤ x)

-- where each entry is new, they are numbered
abbrev pub AllAreNumbered : Type 0
AllAreNumbered = (new : ℕ → Bool) (n : ℕ) → ((x : ℕ) → x < n → new x ≡ true) → (x : ℕ) → x ≤ n → counted new x ≡ x

-- ---- marks

-- where the places don't fall, the greatest mark up to cell p is how many new entries stand below p
abbrev pub MarksFillUp : Type 0
MarksFillUp = (new : ℕ → Bool) (at : ℕ → ℕ) (n : ℕ) → DoNotFall at n → (p : ℕ) → top (marked new at n) (suc p) ≡ below new at n p

-- new entries that write their running number behind their place leave the marks
abbrev pub MarksAreWritten : Type 0
MarksAreWritten =
    (writes new : ℕ → Bool) (at : ℕ → ℕ) (n p : ℕ) → ((x : ℕ) → x < n → writes x ≡ new x)
    → written writes (λ x. at x + 1) (λ x. pos (counted new (suc x))) n p ≡ pos (marked new at n p)

-- ---- cells

-- one more entry that writes is one cell that is set
abbrev pub CellsAreSet : Type 0
CellsAreSet = (cells : List ℤ) (m k : ℕ) (v : ℤ) (f : ℕ → ℤ) → k < m → Table cells m f → Table (slice_set cells k v) m (λ y. if nat_eq k y then v else f y)

-- what the first n entries write depends on them alone
abbrev pub CellsFollowEntries : Type 0
CellsFollowEntries =
    (writes also : ℕ → Bool) (place to : ℕ → ℕ) (f g : ℕ → ℤ) (n y : ℕ)
    → ((x : ℕ) → x < n → writes x ≡ also x) → ((x : ℕ) → x < n → place x ≡ to x) → ((x : ℕ) → x < n → f x ≡ g x)
    → written writes place f n y ≡ written also to g n y
