-- The laws.
use Rattle.std.specs.Prelude.{◌≡◌, ℕ, ◌+◌, ◌*◌, ◌^◌, ◌<◌, ◌≤◌, List, [], ◌∷◌, length, ℤ, pos, ◌+ℤ◌, Option, Some}
use Rattle.us_code.specs.declared.pieces.Columns.{Columns}
use Rattle.us_code.specs.Runs.{World, phases}
use Rattle.us_code.specs.Typing.{Context, BufKind, after_phases}
use Rattle.us_expr.specs.Tree.{Tree, node_count}
use Rattle.us_expr.specs.Value.{IsWithin, value}
use Rattle.us_format.specs.Lists.{cell, head, tail}
use Rattle.us_format.specs.Reading.{limit}
use Rattle.us_gen.specs.Goes.{Leads}
use Rattle.us_gen_query.specs.Filling.{column, width, words, Visible, Entries}
use Rattle.us_gen_counting.specs.Rooms.{RoomFrom, Fit}
use Rattle.us_gen_coordinates.specs.Phase.{column_for, columns_for, coordinates_phase}

-- expressions over the columns, and a low end for each
abbrev pub AreLevels : Columns → List Tree → List ℤ → Type 0
AreLevels cs [] [] = Unit {0}
AreLevels cs (e ∷ es) (low ∷ lows) = IsWithin (length cs.vars.items) e × (node_count e ≤ 32) × AreLevels cs es lows
AreLevels cs _ _ = ⊥

-- ---- typing

-- columns of a word for each entry
abbrev pub SeesWords : (ℕ → Option BufKind) → Columns → List ℕ → Type 0
SeesWords bufs cs [] = Unit {0}
SeesWords bufs cs (c ∷ names) = (bufs c ≡ Some (words cs)) × SeesWords bufs cs names

-- the phase keeps the rules where the columns are visible, with names from n on, and the columns of the levels are visible behind it
abbrev pub CoordinatesTyped : Type 0
CoordinatesTyped =
    (g : Context) (cs : Columns) (es : List Tree) (lows : List ℤ) (n : ℕ) → RoomFrom g n → Visible g cs → AreLevels cs es lows
    → Fit g (coordinates_phase cs es lows n ∷ []) n (n + 40 * length es)
    × SeesWords (after_phases g (coordinates_phase cs es lows n ∷ [])).bufs cs (columns_for cs es lows n)

-- ---- runs

-- the values of m entries at the levels are these coordinates and the low ends
abbrev pub AreCoordinates : (ℕ → ℤ) → (ℕ → ℤ) → (ℕ → List ℤ) → ℕ → List Tree → List ℤ → (ℕ → List ℕ) → Type 0
AreCoordinates row col vars m [] lows rest = Unit {0}
AreCoordinates row col vars m (e ∷ es) [] rest = Unit {0}
AreCoordinates row col vars m (e ∷ es) (low ∷ lows) rest =
    ((x : ℕ) → x < m → (value (row x) (col x) (vars x) e ≡ pos (head (rest x)) +ℤ low) × (head (rest x) < 2 ^ 62))
    × AreCoordinates row col vars m es lows (λ x. tail (rest x))

-- a column of m coordinates
pub record IsHeld (cells : List ℤ) (m : ℕ) (c : ℕ → ℕ) : Type 0 where
  pub long : length cells ≡ m
  pub each : (x : ℕ) → x < m → cell cells x ≡ pos (c x)

-- the column of each level holds its coordinates
abbrev pub HoldCoordinates : (ℕ → List ℤ) → Columns → List Tree → List ℤ → ℕ → ℕ → (ℕ → List ℕ) → Type 0
HoldCoordinates bufs cs [] lows n m rest = Unit {0}
HoldCoordinates bufs cs (e ∷ es) [] n m rest = Unit {0}
HoldCoordinates bufs cs (e ∷ es) (low ∷ lows) n m rest =
    IsHeld (bufs (column_for cs e low n)) m (λ x. head (rest x)) × HoldCoordinates bufs cs es lows (n + 40) m (λ x. tail (rest x))

-- where columns with numbers below n hold the entries, the phase leaves the coordinates, in at most 21 steps a level and entry and 3 a level
abbrev pub CoordinatesLead : Type 0
CoordinatesLead =
    (w : World) (cs : Columns) (es : List Tree) (lows : List ℤ) (n m : ℕ) (row col : ℕ → ℤ) (vars : ℕ → List ℤ) (rest : ℕ → List ℕ)
    → Entries w.env cs w.bufs m row col vars → m ≤ limit → ((c : ℕ) → c < width cs → column cs c < n)
    → AreLevels cs es lows → AreCoordinates row col vars m es lows rest
    → Leads n (length es + length es * (2 + 21 * m)) w (phases (coordinates_phase cs es lows n ∷ []) w) (λ u. HoldCoordinates u.bufs cs es lows n m rest)
