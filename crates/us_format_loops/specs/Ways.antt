-- Ways down the levels of a part, from the position above the first level.
use Rattle.std.specs.Prelude.{ℕ, ◌+◌, ◌*◌, ◌<◌, ◌≤◌, ◌≡◌, ℤ, pos, List, [], ◌∷◌, length, drop, nat_le}
use Rattle.std.specs.List.{count_by}
use Rattle.us_format.specs.declared.Kind.{Kind}
use Rattle.us_format.specs.declared.Kind.TheVariants.{Full, Compressed, Listed, Slot}
use Rattle.us_format.specs.Lists.{head, nth, cell, nat_of}
use Rattle.us_format.specs.Kinds.{Level}
use Rattle.us_format.specs.Positions.{Row, nodes, place, count_below, moved, down}
use Rattle.us_format.specs.Climb.{width}

-- ---- the buffers of the levels

-- where the positions under p start, by the cells of `pos`
abbrev pub first_under : List ℤ → ℕ → ℕ
first_under starts p = nat_of (cell starts p)

-- x is one of the positions that start there
abbrev pub IsParent : List ℤ → ℕ → ℕ → Type 0
IsParent starts p x = (first_under starts p ≤ x) × (x < first_under starts (p + 1))

-- the cells of `pos` of these nodes, whose parents are n positions
pub record Starts (starts : List ℤ) (ns : List (List ℕ)) (n : ℕ) : Type 0 where
  pub long : length starts ≡ n + 1
  pub each : (p : ℕ) → p ≤ n → cell starts p ≡ pos (first_under starts p)
  pub front : first_under starts 0 ≡ 0
  pub counts : (p : ℕ) → p < n → first_under starts (p + 1) ≡ count_by (λ m. nat_le (head m) p) ns
  pub rises : (p r : ℕ) → p ≤ r → r ≤ n → first_under starts p ≤ first_under starts r
  pub last : first_under starts n ≡ length ns
  -- under one position all nodes stand
  pub alone : n ≡ 1 → starts ≡ pos 0 ∷ pos (length ns) ∷ []
  pub parent : (x : ℕ) → x < length ns → (p : ℕ) × (p < n) × IsParent starts p x
  pub one_parent : (p r x : ℕ) → IsParent starts p x → IsParent starts r x → p ≡ r

-- the cells of `crd`: n coordinates
pub record Cells (cells : List ℤ) (n : ℕ) : Type 0 where
  pub long : length cells ≡ n
  pub each : (x : ℕ) → cell cells x ≡ pos (nat_of (cell cells x))

-- what the buffers of a level hold, which come first, where there are n positions above
abbrev pub HoldsLevel : Kind → ℕ → List (List ℤ) → ℕ → List Row → Type 0
HoldsLevel Full size bufs n rows = Unit {0}
HoldsLevel Compressed size bufs n rows = Starts (nth bufs 0) (nodes Compressed rows) n × Cells (nth bufs 1) (length (nodes Compressed rows))
HoldsLevel Listed size bufs n rows = Starts (nth bufs 0) (nodes Listed rows) n × Cells (nth bufs 1) (length (nodes Listed rows))
HoldsLevel Slot size bufs n rows = Cells (nth bufs 0) n

-- the same of all levels, and of the values
abbrev pub HoldsLevels : List Level → List (List ℤ) → ℕ → List Row → Type 0
HoldsLevels [] bufs n rows = length (nth bufs 0) ≡ n
HoldsLevels (l ∷ ls) bufs n rows =
    HoldsLevel l.kind l.size bufs n rows × HoldsLevels ls (drop (width l.kind) bufs) (count_below l.kind l.size n rows) (down l.kind l.size rows)

-- ---- ways

-- a position of a level, and the coordinate there
pub record Place : Type 0 where
  pub position : ℕ
  pub coordinate : ℕ

-- a place lies under position q, by the kind of the level and its buffers, which come first
abbrev pub IsUnder : Kind → ℕ → List (List ℤ) → ℕ → Place → Type 0
IsUnder Full size bufs q x = (x.coordinate < size) × (x.position ≡ q * size + x.coordinate)
IsUnder Compressed size bufs q x = IsParent (nth bufs 0) q x.position × (cell (nth bufs 1) x.position ≡ pos x.coordinate)
IsUnder Listed size bufs q x = IsParent (nth bufs 0) q x.position × (cell (nth bufs 1) x.position ≡ pos x.coordinate)
IsUnder Slot size bufs q x = (x.position ≡ q) × (cell (nth bufs 0) q ≡ pos x.coordinate)

-- one place for each level, each under the one before, the first under q
abbrev pub IsWay : List Level → List (List ℤ) → ℕ → List Place → Type 0
IsWay [] bufs q [] = Unit {0}
IsWay [] bufs q (x ∷ xs) = ⊥
IsWay (l ∷ ls) bufs q [] = ⊥
IsWay (l ∷ ls) bufs q (x ∷ xs) = IsUnder l.kind l.size bufs q x × IsWay ls (drop (width l.kind) bufs) x.position xs

-- the last position of a way from q
abbrev pub end_of : ℕ → List Place → ℕ
end_of q [] = q
end_of q (x ∷ xs) = end_of x.position xs

-- the positions and the coordinates of an entry
abbrev pub way_of : List Level → List Row → Row → List Place
way_of [] rows r = []
way_of (l ∷ ls) rows r =
    record { position = place l.kind l.size rows r; coordinate = head r.rest } ∷ way_of ls (down l.kind l.size rows) (moved l.kind l.size rows r)
