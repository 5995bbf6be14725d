-- Coordinates that come twice in a list of entries, and the row-major list of its entries.
use Rattle.std.specs.Prelude.{◌≡◌, ℕ, suc, min, ◌+◌, ◌*◌, ◌<◌, ◌≤◌, pos, List, [], ◌∷◌, length, slice_index_or, Option, Some, None, Contains, AllPairs, IsTrue, IsFalse, ◌↔◌, ◌==◌, if◌then◌else◌, map}
use Rattle.us_format.specs.Matrix.{Shape, Entry, is_zero, earlier}
use Rattle.us_format.specs.Program.{plain_entry}
use Rattle.us_climb.specs.declared.found.Found.{Found}
use Rattle.us_check.specs.declared.repeats.Place.{Place}

-- the entries that were found, without their positions
abbrev pub found_entries : List Found → List Entry
found_entries fs = map (λ f. plain_entry f.triple) fs

-- the entry with this number
abbrev pub entry_at : List Entry → ℕ → Entry
entry_at es k = slice_index_or es k (record { i = 0; j = 0; v = pos 0 })

-- two entries stand at one coordinate
abbrev pub StandTogether : Entry → Entry → Type 0
StandTogether a b = (a.i ≡ b.i) × (a.j ≡ b.j)

-- an earlier entry stands at the coordinate of the entry with this number
abbrev pub IsRepeat : List Entry → ℕ → Type 0
IsRepeat es k = (h : ℕ) × (h < k) × StandTogether (entry_at es h) (entry_at es k)

-- the least number of an entry whose coordinate came before; none where all coordinates differ
abbrev pub IsFirstRepeat : List Entry → Option ℕ → Type 0
IsFirstRepeat es None = (k : ℕ) → k < length es → IsRepeat es k → ⊥
IsFirstRepeat es (Some k) = (k < length es) × IsRepeat es k × ((n : ℕ) → n < k → IsRepeat es n → ⊥)

-- a list has the same entries, in row-major order
pub record IsInOrder (es sorted : List Entry) : Type 0 where
  pub rising : AllPairs (λ a b. IsTrue (earlier a b)) sorted
  pub same : (e : Entry) → Contains sorted e ↔ Contains es e

-- an entry lies in the shape, and its value is not 0
pub record IsInside (s : Shape) (e : Entry) : Type 0 where
  pub row : e.i < s.rows
  pub col : e.j < s.cols
  pub some : IsFalse (is_zero e.v)

-- ---- places in a row-major walk

-- the place of an entry in a walk through rows of 2^31 columns
abbrev pub walked : Entry → ℕ
walked e = 2147483648 * e.i + e.j

-- the place of each entry with its number, the numbers going on from k
abbrev pub places_from : ℕ → List Entry → List Place
places_from k [] = []
places_from k (e ∷ es) = record { at = walked e; index = k } ∷ places_from (suc k) es

-- the place with this number in the list
abbrev pub place_at : List Place → ℕ → Place
place_at ps k = slice_index_or ps k (record { at = 0; index = 0 })

-- of places of which the later one equals the one before it, the first k being looked at, the least index of the later one
abbrev pub IsLeastIndex : List Place → ℕ → Option ℕ → Type 0
IsLeastIndex ps k None = (n : ℕ) → n + 1 < k → (place_at ps n).at ≡ (place_at ps (n + 1)).at → ⊥
IsLeastIndex ps k (Some x) =
    ((n : ℕ) × (n + 1 < k) × ((place_at ps n).at ≡ (place_at ps (n + 1)).at) × ((place_at ps (n + 1)).index ≡ x))
    × ((n : ℕ) → n + 1 < k → (place_at ps n).at ≡ (place_at ps (n + 1)).at → x ≤ (place_at ps (n + 1)).index)

-- the lower of two numbers, where there are two
abbrev pub lowest : Option ℕ → ℕ → ℕ
lowest None n = n
lowest (Some x) n = min x n

-- the least index, after a place was looked at behind the one before it
abbrev pub looked_at : Option ℕ → Place → Place → Option ℕ
looked_at least before place = if before.at == place.at then Some (lowest least place.index) else least
