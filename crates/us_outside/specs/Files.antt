-- The files of an outside, and what its calls do to them.
use Rattle.std.specs.Prelude.{◌≡◌, ℕ, ◌-◌, ◌<◌, ◌≤◌, min, ◌⊎◌, List, [], ◌++◌, length, take, drop, unwrap_or, Option}
use Rattle.std.specs.Option.{option_map}
use Rattle.std.specs.Ordering.{nat_cmp}
use Rattle.std.specs.Cmp.Lexicographic.{slice_cmp}
use Rattle.std.specs.FinMap as map

-- a finite map from names to bytes
abbrev pub Files : Type 0
Files = map.FinMap (slice_cmp nat_cmp) (List ℕ)

-- the bytes of a file, none where there is no such file
abbrev pub content_of : Files → List ℕ → List ℕ
content_of fs name = unwrap_or (map.get fs name) []

-- the files with one set to these bytes
abbrev pub stored : List ℕ → List ℕ → Files → Files
stored name bytes fs = map.insert fs name bytes

-- n bytes from a place on, in the front of the room, and at least one where there is one and room for it
pub record IsFetch (bytes : List ℕ) (from n : ℕ) (room : List ℕ) : Type 0 where
  pub within : n ≤ length bytes - from
  pub front : take n room ≡ take n (drop from bytes)
  pub some : 0 < length room → from < length bytes → 0 < n

-- n bytes from a place on, in the front of the room: as many as there are, or as fit
pub record IsFilled (bytes : List ℕ) (from n : ℕ) (room : List ℕ) : Type 0 where
  pub count : n ≡ min (length room) (length bytes - from)
  pub front : take n room ≡ take n (drop from bytes)

-- a file is as before, or the first k of these bytes
abbrev pub StoresPart : List ℕ → List ℕ → Option Files → Option Files → Type 0
StoresPart name bytes old new = (new ≡ old) ⊎ ((k : ℕ) × (new ≡ option_map (stored name (take k bytes)) old))

-- the first k of these bytes were appended
abbrev pub PrintsPart : List ℕ → Option (List ℕ) → Option (List ℕ) → Type 0
PrintsPart bytes old new = (k : ℕ) × (new ≡ option_map (λ printed. printed ++ take k bytes) old)
