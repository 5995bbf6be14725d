-- What a loop leaves in the buffers of the levels.
use Rattle.std.specs.Prelude.{◌≡◌, ℕ, suc, ◌+◌, ◌<◌, Bool, true, false, List, [], ◌∷◌, ◌++◌, length, ℤ, pos}
use Rattle.us_format.specs.declared.Kind.{Kind}
use Rattle.us_format.specs.declared.Kind.TheVariants.{Full, Compressed, Listed, Slot}
use Rattle.us_format.specs.Kinds.{Level}
use Rattle.us_format.specs.Positions.{Row, count_below, down}
use Rattle.us_running.specs.Running.{below, written, Table}
use Rattle.us_gen_build_laws.specs.Rows.{row}
use Rattle.us_gen_build_laws.specs.Numbering.{Taken, keys_of, under, opens}

-- the lists of one level: where the positions under each one start, and the coordinates
pub record Lists : Type 0 where
  pub starts : List ℤ
  pub coordinates : List ℤ

-- the lists that a level has
abbrev pub lists_of : Kind → Lists → List (List ℤ)
lists_of Full c = []
lists_of Compressed c = c.starts ∷ c.coordinates ∷ []
lists_of Listed c = c.starts ∷ c.coordinates ∷ []
lists_of Slot c = c.coordinates ∷ []

-- the lists of the levels in order, then the values
abbrev pub all_lists : List Level → List Lists → List ℤ → List (List ℤ)
all_lists (l ∷ ls) (c ∷ cs) values = lists_of l.kind c ++ all_lists ls cs values
all_lists _ _ values = values ∷ []

-- the first n entries write these values at these places of a list of m cells; one may leave it out where the one before has the same place
pub record AreWritten (n : ℕ) (place : ℕ → ℕ) (value : ℕ → ℤ) (m : ℕ) (cells : List ℤ) : Type 0 where
  pub writes : ℕ → Bool
  pub to : ℕ → ℕ
  pub what : ℕ → ℤ
  pub places : (x : ℕ) → x < n → to x ≡ place x
  pub values : (x : ℕ) → x < n → what x ≡ value x
  pub first : 0 < n → writes 0 ≡ true
  pub skips : (x : ℕ) → suc x < n → writes (suc x) ≡ false → place x ≡ place (suc x)
  pub table : Table cells m (written writes to what n)

-- where the nodes under each of m positions start: cell p is how many of the first n entries open a node below position p
abbrev pub AreStarts : ℕ → (ℕ → Bool) → (ℕ → ℕ) → ℕ → List ℤ → Type 0
AreStarts n new at m cells = Table cells (m + 1) (λ p. pos (below new at n p))

-- ---- levels

-- what a level of this kind and size leaves, where there are n positions above and the entries stand at these
abbrev pub IsBuilt : Kind → Taken → ℕ → ℕ → List Row → (ℕ → ℕ) → Lists → Type 0
IsBuilt Full t size n rows at c = Unit {0}
IsBuilt Compressed t size n rows at c =
    AreStarts (length rows) (opens t.numbering (keys_of t size at)) at n c.starts
    × AreWritten (length rows) (under t size at) (λ x. pos (t.coordinate x)) (count_below Compressed size n rows) c.coordinates
IsBuilt Listed t size n rows at c =
    AreStarts (length rows) (opens t.numbering (keys_of t size at)) at n c.starts
    × AreWritten (length rows) (under t size at) (λ x. pos (t.coordinate x)) (count_below Listed size n rows) c.coordinates
IsBuilt Slot t size n rows at c = AreWritten (length rows) (under t size at) (λ x. pos (t.coordinate x)) (count_below Slot size n rows) c.coordinates

-- the same of all levels, and of the values
abbrev pub AreBuilt : List Taken → List Level → List Lists → List ℤ → ℕ → List Row → (ℕ → ℕ) → Type 0
AreBuilt [] [] [] values n rows at = AreWritten (length rows) at (λ x. (row rows x).value) n values
AreBuilt (t ∷ ts) (l ∷ ls) (c ∷ cs) values n rows at =
    IsBuilt l.kind t l.size n rows at c × AreBuilt ts ls cs values (count_below l.kind l.size n rows) (down l.kind l.size rows) (under t l.size at)
AreBuilt _ _ _ values n rows at = ⊥
