-- The widths of cells, and the numbers that a cell of each holds.
use Rattle.std.specs.Prelude.{ℕ, ◌^◌, ◌<◌, ◌≤◌, List, length, get_or, ℤ, pos, ◌≤ℤ◌, ◌<ℤ◌, nat_le, if◌then◌else◌, ⊤}
use Rattle.us_raw.specs.declared.width.Width.{Width}
use Rattle.us_raw.specs.declared.width.Width.TheVariants.{W1, W2, W4, W8}

-- the bytes of a cell
abbrev pub size_of : Width → ℕ
size_of W1 = 1
size_of W2 = 2
size_of W4 = 4
size_of W8 = 8

-- the width of a cell of so many bytes
abbrev pub width_of : ℕ → Width
width_of k = if nat_le k 1 then W1 else (if nat_le k 2 then W2 else (if nat_le k 4 then W4 else W8))

abbrev pub Holds : Width → ℤ → Type 0
Holds W1 v = (pos 0 ≤ℤ v) × (v <ℤ pos (2 ^ 8))
Holds W2 v = (pos 0 ≤ℤ v) × (v <ℤ pos (2 ^ 16))
Holds W4 v = (pos 0 ≤ℤ v) × (v <ℤ pos (2 ^ 32))
Holds W8 v = ⊤

-- each of the numbers is one that a cell of the width holds
abbrev pub HoldsAll : Width → List ℤ → Type 0
HoldsAll w vs = (i : ℕ) → i < length vs → Holds w (get_or vs i (pos 0))

-- each of the numbers is at least 0 and below the bound
abbrev pub AreBelow : ℤ → List ℤ → Type 0
AreBelow bound vs = (i : ℕ) → i < length vs → (pos 0 ≤ℤ get_or vs i (pos 0)) × (get_or vs i (pos 0) <ℤ bound)

-- w is the least width of which P is true
abbrev pub IsLeast : (Width → Type 0) → Width → Type 0
IsLeast P w = P w × ((other : Width) → P other → size_of w ≤ size_of other)
