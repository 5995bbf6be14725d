-- Packs of a building loop that stand for packs of a part.
use Rattle.std.specs.Prelude.{◌≡◌, ℕ, suc, ◌<◌, ◌≤◌, ◌+◌, true, List, [], ◌∷◌, length, drop, slice_index_or, IsTrue, All, ℤ, pos}
use Rattle.us_code.specs.Run.{size_of, value}
use Rattle.us_format.specs.Declaration.{Column, LevelColumn, ValueColumn}
use Rattle.us_format.specs.Kinds.{Level}
use Rattle.us_format.specs.Positions.{Row, count_below, down}
use Rattle.us_format_loops.specs.Nodes.{are_slots}
use Rattle.us_gen_build.specs.Turns.{Turns}
use Rattle.us_gen_build_laws.specs.Rows.{row}
use Rattle.us_gen_packs.specs.Packs.{PackTree, width}
use Rattle.us_gen_packs.specs.Turns.{AllRead, column}

-- the number that a column has of an entry
abbrev pub entry_number : Row → Column → ℤ
entry_number r (LevelColumn k) = pos (slice_index_or r.rest k 0)
entry_number r ValueColumn = r.value

-- the levels behind a column
abbrev pub levels_behind : List Level → Column → List Level
levels_behind ks (LevelColumn k) = drop (suc k) ks
levels_behind ks ValueColumn = []

-- how many positions there are behind all levels, where there are n in front of them
abbrev pub count_behind : List Level → ℕ → List Row → ℕ
count_behind [] n rows = n
count_behind (k ∷ ks) n rows = count_behind ks (count_below k.kind k.size n rows) (down k.kind k.size rows)

module _ (T : Turns) where
  -- a pack of the loop stands for columns of a part with these levels, where there are n positions behind all of them and the entries stand at these
  pub record PackStandsFor (w : PackTree) (pack : List Column) (ks : List Level) (n : ℕ) (rows : List Row) (at : ℕ → ℕ) : Type 0 where
    -- only slot levels follow
    pub slots : All (λ c. IsTrue (are_slots (levels_behind ks c))) pack
    -- names
    pub room : T.base ≤ w.first
    pub reads : AllRead T.base w.columns
    -- lengths
    pub columns : width w ≡ length pack
    pub factor : T.env.factors w.cells ≡ width w
    pub positions : size_of T.env w.length ≡ n
    -- the numbers of the columns, and the position where it is the turn
    pub numbers :
        (x y : ℕ) → x < T.count → y < length pack
        → value T.env (T.held x) (column w.columns y) ≡ entry_number (row rows x) (slice_index_or pack y ValueColumn)
    pub rank : (x : ℕ) → x < T.count → w.at_rank ≡ true → at x ≡ x

  -- the packs of the loop stand for packs of a part, one for each in order; their names rise from lo on
  abbrev pub AllPacksStand : ℕ → List PackTree → List (List Column) → List Level → ℕ → List Row → (ℕ → ℕ) → Type 0
  AllPacksStand lo [] [] ks n rows at = Unit {0}
  AllPacksStand lo (w ∷ ws) (pack ∷ packs) ks n rows at = (lo ≤ w.first) × PackStandsFor w pack ks n rows at × AllPacksStand (w.first + 1) ws packs ks n rows at
  AllPacksStand lo _ _ ks n rows at = ⊥
