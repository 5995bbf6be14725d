-- Tables of parents: what is known in advance of the first parents of a level's positions.
use Rattle.std.proofs.Common.{get_or, Vec, Global}
use Rattle.std.specs.Prelude.{◌≡◌, ℕ, ◌-◌, ◌^◌, ◌<◌, ◌≤◌, ℤ, List, [], ◌∷◌, length, min, nat_lt, nat_le, ◌&&◌, if◌then◌else◌, map, Option, Some, None}
use Rattle.us_format.specs.Lists.{nth, first_from, nat_of}
use Rattle.us_format.specs.Climb.{is_parent, parent_of}
use Rattle.us_climb.specs.declared.layout.LevelLayout.{LevelLayout}

-- the number that stands for no parent
abbrev pub none : ℕ
none = 2 ^ 64 - 1

-- a parent as a number
abbrev pub number : Option ℕ → ℕ
number None = none
number (Some p) = p

-- the number in a table
abbrev pub entry : List ℕ → ℕ → ℕ
entry table x = get_or table x none

-- the first parent of a position among the first p
abbrev pub parent_below : List ℤ → ℕ → ℕ → Option ℕ
parent_below starts p x = first_from (is_parent starts x) 0 p

-- the table has for each of its positions the first parent among the first p
abbrev pub AreBelow : List ℤ → ℕ → List ℕ → Type 0
AreBelow starts p table = (x : ℕ) → x < length table → entry table x ≡ number (parent_below starts p x)

-- the table has for each of its positions the first parent
abbrev pub IsTable : List ℤ → List ℕ → Type 0
IsTable starts table = (x : ℕ) → x < length table → entry table x ≡ number (parent_of starts x)

-- the tables are those of the first levels
abbrev pub AreParents : List LevelLayout → List (List ℕ) → List (List ℤ) → Type 0
AreParents ls [] bufs = Unit {0}
AreParents [] (t ∷ ts) bufs = Unit {0}
AreParents (l ∷ ls) (t ∷ ts) bufs = IsTable (nth bufs l.starts) t × AreParents ls ts bufs

abbrev pub tables_in : List (Vec ℕ Global) → List (List ℕ)
tables_in tables = map (λ v. v.items) tables

-- ---- a table in the making

-- the place of a start among `count` positions
abbrev pub place_of : ℕ → ℤ → ℕ
place_of count z = min (nat_of z) count

-- a position from `low` on and below `high` that has no parent gets this one
abbrev pub claimed : ℕ → ℕ → ℕ → ℕ → ℕ → ℕ
claimed low high p x v = if nat_le low x && (nat_lt x high && nat_le none v) then p else v

-- From each position one may skip to another one behind it, up to which all have parents. A position without one stays.
pub record AreSkips (table skips : List ℕ) : Type 0 where
  pub same : length skips ≡ length table
  pub forth : (x : ℕ) → x < length table → x ≤ get_or skips x 0
  pub within : (x : ℕ) → x < length table → get_or skips x 0 ≤ length table
  pub over : (x y : ℕ) → x < length table → x ≤ y → y < get_or skips x 0 → entry table y < none
  pub moves : (x : ℕ) → x < length table → entry table x < none → x < get_or skips x 0
