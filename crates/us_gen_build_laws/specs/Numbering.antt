-- How a loop numbers the positions of each level.
use Rattle.std.specs.Prelude.{◌≡◌, ℕ, suc, ◌+◌, ◌-◌, ◌*◌, ◌<◌, Bool, true, List, [], ◌∷◌, length, IsTrue}
use Rattle.us_format.specs.declared.Kind.{Kind}
use Rattle.us_format.specs.declared.Kind.TheVariants.{Full, Compressed, Listed, Slot}
use Rattle.us_format.specs.Kinds.{Level}
use Rattle.us_format.specs.Lists.{head}
use Rattle.us_format.specs.Positions.{Row, place, count_below, down}
use Rattle.us_format_loops.specs.Nodes.{are_slots}
use Rattle.us_running.specs.Running.{is_new, seen}
use Rattle.us_gen_build_laws.specs.Rows.{row}

-- a position is computed from the one above and the coordinate, counted by the nodes so far, the number of the entry, or kept
pub data Numbering : Type 0 where
  Computed : Numbering
  Counted : Numbering
  Ranked : Numbering
  Kept : Numbering

-- which kinds of level a numbering is for
abbrev pub Suits : Numbering → Kind → Type 0
Suits Computed Full = Unit {0}
Suits Counted Compressed = Unit {0}
Suits Ranked Compressed = Unit {0}
Suits Ranked Listed = Unit {0}
Suits Kept Slot = Unit {0}
Suits _ _ = ⊥

-- a level as the loop takes it: how it is numbered, and the coordinate of each entry
pub record Taken : Type 0 where
  pub numbering : Numbering
  pub coordinate : ℕ → ℕ

-- the number that tells the nodes of a level of this size apart, where the entries stand at these positions above
abbrev pub keys_of : Taken → ℕ → (ℕ → ℕ) → ℕ → ℕ
keys_of t size at x = at x * size + t.coordinate x

-- the position of entry x, by the numbering
abbrev pub numbered : Numbering → ℕ → (ℕ → ℕ) → (ℕ → ℕ) → ℕ → ℕ
numbered Computed size at coordinate x = at x * size + coordinate x
numbered Counted size at coordinate x = seen (λ y. at y * size + coordinate y) (suc x) - 1
numbered Ranked size at coordinate x = x
numbered Kept size at coordinate x = at x

-- the position of entry x one level down
abbrev pub under : Taken → ℕ → (ℕ → ℕ) → ℕ → ℕ
under t size at x = numbered t.numbering size at t.coordinate x

-- whether entry x is the first of its node
abbrev pub opens : Numbering → (ℕ → ℕ) → ℕ → Bool
opens Counted keys x = is_new keys x
opens _ keys x = true

-- ---- levels and rows

-- the entries stand at the positions of the rows
abbrev pub AreAt : List Row → (ℕ → ℕ) → Type 0
AreAt rows at = (x : ℕ) → x < length rows → at x ≡ (row rows x).at

-- a level, with these levels behind it, is taken for the rows: where the number of the entry is its position, only slot levels follow
pub record IsTaken (t : Taken) (l : Level) (behind : List Level) (rows : List Row) : Type 0 where
  pub suits : Suits t.numbering l.kind
  pub coordinates : (x : ℕ) → x < length rows → t.coordinate x ≡ head (row rows x).rest
  pub last : t.numbering ≡ Ranked → l.kind ≡ Compressed → IsTrue (are_slots behind)

abbrev pub AreTaken : List Taken → List Level → List Row → Type 0
AreTaken [] [] rows = Unit {0}
AreTaken (t ∷ ts) (l ∷ ls) rows = IsTaken t l ls rows × AreTaken ts ls (down l.kind l.size rows)
AreTaken _ _ rows = ⊥

-- the positions of the entries at a level, where there are n positions above and the entries stand at these
pub record ArePositions (t : Taken) (l : Level) (n : ℕ) (rows : List Row) (at : ℕ → ℕ) : Type 0 where
  pub above : (x : ℕ) → x < length rows → at x < n
  pub small : (x : ℕ) → x < length rows → t.coordinate x < l.size
  -- the definition's position
  pub place : (x : ℕ) → x < length rows → under t l.size at x ≡ place l.kind l.size rows (row rows x)
  pub within : (x : ℕ) → x < length rows → under t l.size at x < count_below l.kind l.size n rows
  -- the running number after all entries, and the number of entries, where they number positions
  pub counted : t.numbering ≡ Counted → seen (keys_of t l.size at) (length rows) ≡ count_below l.kind l.size n rows
  pub ranked : t.numbering ≡ Ranked → length rows ≡ count_below l.kind l.size n rows

-- the same at each level, and below all of them, where there are n positions
abbrev pub HavePositions : List Taken → List Level → ℕ → List Row → (ℕ → ℕ) → Type 0
HavePositions [] [] n rows at = (x : ℕ) → x < length rows → (at x ≡ (row rows x).at) × (at x < n)
HavePositions (t ∷ ts) (l ∷ ls) n rows at =
    ArePositions t l n rows at × HavePositions ts ls (count_below l.kind l.size n rows) (down l.kind l.size rows) (under t l.size at)
HavePositions _ _ n rows at = ⊥
