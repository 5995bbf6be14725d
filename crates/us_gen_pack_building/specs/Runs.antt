-- On columns that hold the entries of a part the phases build all its buffers, packs included.
use Rattle.std.specs.Prelude.{◌≡◌, ℕ, zero, suc, ◌+◌, ◌-◌, ◌*◌, ◌≤◌, true, false, cond, nat_lt, List, [], ◌∷◌, map, length}
use Rattle.us_code.specs.Run.{Env, size_of}
use Rattle.us_code.specs.Runs.{World, phases}
use Rattle.us_format.specs.Matrix.{Shape, Entry}
use Rattle.us_format.specs.Declaration.{Column, LevelColumn, ValueColumn, Part}
use Rattle.us_format.specs.Positions.{Row, rows_of}
use Rattle.us_format.specs.Packs.{written, packed}
use Rattle.us_format.specs.Buffers.{piece_buffers}
use Rattle.us_format.specs.Reading.{limit}
use Rattle.us_format.specs.Rules.{ArePacksLawful}
use Rattle.us_format_loops.specs.Laws.{levels_on}
use Rattle.us_gen.specs.Goes.{Leads}
use Rattle.us_gen_packs.specs.Packs.{PackTree, width}
use Rattle.us_pack_loops.specs.Standing.{count_behind}
use Rattle.us_gen_building.specs.declared.part.PartLevel.{PartLevel}
use Rattle.us_gen_building.specs.Levels.{are_last}
use Rattle.us_gen_building.specs.Runs.{IsBuildable, IsCounted, counting_cost, building_cost, cells_of}
use Rattle.us_gen_pack_building.specs.declared.part.PackRun.{PackRun}
use Rattle.us_gen_pack_building.specs.declared.part.PackedLoops.{PackedLoops}
use Rattle.us_gen_pack_building.specs.Levels.{has, is_packed, FitRuns}
use Rattle.us_gen_pack_building.specs.Phases.{level_count, pack_count, all_packs, cell_counting_phase, packing_phase, packing_phases, packed_buffers}

-- ---- the packs of a part

-- the column with a number, where there are n levels
abbrev pub column_at : ℕ → ℕ → Column
column_at n k = cond (nat_lt k n) (LevelColumn k) ValueColumn

abbrev pub columns_from : ℕ → ℕ → ℕ → List Column
columns_from n k zero = []
columns_from n k (suc m) = column_at n k ∷ columns_from n (k + 1) m

abbrev pub columns_of : ℕ → PackRun → List Column
columns_of n r = columns_from n r.first (r.end - r.first)

-- behind a level whose coordinates are in a pack there are slot levels alone; the first of the levels has number k
abbrev pub AreLast : List PackRun → ℕ → List PartLevel → Type 0
AreLast rs k [] = Unit {0}
AreLast rs k (l ∷ ls) = (is_packed rs k ≡ true → are_last ls ≡ true) × AreLast rs (k + 1) ls

-- no column is in two packs
abbrev pub AreApart : List PackRun → Type 0
AreApart [] = Unit {0}
AreApart (r ∷ rs) = ((k : ℕ) → has r k ≡ true → is_packed rs k ≡ false) × AreApart rs

-- as many cells as positions times columns, within the limit
abbrev pub AreCellsSmall : ℕ → List PackRun → Type 0
AreCellsSmall n [] = Unit {0}
AreCellsSmall n (r ∷ rs) = (n * (r.end - r.first) ≤ limit) × AreCellsSmall n rs

-- the packs of the loops are those of the part
pub record ArePacksOf (x : PackedLoops) (s : Shape) (p : Part) (m : List Entry) : Type 0 where
  pub lawful : ArePacksLawful p
  pub packs : map (columns_of (level_count x)) x.packs.items ≡ p.packs
  pub runs : FitRuns (level_count x + 1) x.packs.items
  pub last : AreLast x.packs.items 0 x.part.levels.items
  pub apart : AreApart x.packs.items
  pub small : AreCellsSmall (count_behind (levels_on s p m) 1 (rows_of m s p)) x.packs.items

-- ---- worlds

-- before the phases
pub record IsPackable (x : PackedLoops) (f : ℕ) (s : Shape) (p : Part) (m : List Entry) (rows : List Row) (u : World) : Type 0 where
  pub buildable : IsBuildable x.part f s p m rows u
  pub packs : ArePacksOf x s p m

-- the dim of each pack's cells is the product of its positions and its columns
abbrev pub HaveCells : Env → List PackTree → Type 0
HaveCells env [] = Unit {0}
HaveCells env (w ∷ ws) = (env.dims w.cells ≡ size_of env w.length * width w) × (env.factors w.cells ≡ width w) × HaveCells env ws

-- between the phases
pub record AreCellsCounted (x : PackedLoops) (f : ℕ) (s : Shape) (p : Part) (m : List Entry) (rows : List Row) (u : World) : Type 0 where
  pub counted : IsCounted x.part f s p m rows u
  pub packs : ArePacksOf x s p m
  pub cells : HaveCells u.env (all_packs x f)

-- after the phases
abbrev pub AreAllBuilt : PackedLoops → ℕ → Shape → Part → List Entry → World → Type 0
AreAllBuilt x f s p m u = map u.bufs (packed_buffers x f) ≡ map written (packed p (piece_buffers s p m))

-- ---- costs

-- of l levels, p packs and n entries: a step more for each pack
abbrev pub cell_counting_cost : ℕ → ℕ → ℕ → ℕ
cell_counting_cost l p n = counting_cost l n + p

-- one for each pack, and for each entry one for each pack and each column in one
abbrev pub packing_cost : ℕ → ℕ → ℕ → ℕ → ℕ
packing_cost l p n cells = building_cost l n cells + p + n * (p + (l + 1))

-- ---- laws

abbrev pub PackingCounts : Type 0
PackingCounts =
    (x : PackedLoops) (f : ℕ) (s : Shape) (p : Part) (m : List Entry) (rows : List Row) (w : World) → IsPackable x f s p m rows w
    → Leads f (cell_counting_cost (level_count x) (pack_count x) (length rows)) w (phases (cell_counting_phase x f ∷ []) w) (AreCellsCounted x f s p m rows)

abbrev pub PackingBuilds : Type 0
PackingBuilds =
    (x : PackedLoops) (f : ℕ) (s : Shape) (p : Part) (m : List Entry) (rows : List Row) (w : World) → AreCellsCounted x f s p m rows w
    → Leads (f + 1) (packing_cost (level_count x) (pack_count x) (length rows) (cells_of s p m)) w (phases (packing_phase x f ∷ []) w) (AreAllBuilt x f s p m)

-- at most 64 steps for each level and one, and for each entry and cell and one
abbrev pub PackingsBuild : Type 0
PackingsBuild =
    (x : PackedLoops) (f : ℕ) (s : Shape) (p : Part) (m : List Entry) (rows : List Row) (w : World) → IsPackable x f s p m rows w
    → Leads f (64 * (1 + level_count x) * (length rows + 1 + cells_of s p m)) w (phases (packing_phases x f) w) (AreAllBuilt x f s p m)
