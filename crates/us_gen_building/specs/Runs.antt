-- On columns that hold the entries of a part the phases build its buffers.
use Rattle.std.specs.Prelude.{◌≡◌, ℕ, ◌+◌, ◌*◌, ◌^◌, ◌<◌, ◌≤◌, Bool, true, false, List, [], ◌∷◌, map, length, Option, Some, None}
use Rattle.std.specs.List.{sum_by}
use Rattle.std.specs.List.Sorted.{IsPermutation}
use Rattle.us_format.specs.declared.Kind.{Kind}
use Rattle.us_format.specs.declared.Kind.TheVariants.{Full, Compressed, Listed, Slot}
use Rattle.us_format.specs.Kinds.{Level}
use Rattle.us_format.specs.Lists.{cell}
use Rattle.us_format.specs.Matrix.{Shape, Entry, IsMatrixOf}
use Rattle.us_format.specs.Declaration.{Part}
use Rattle.us_format.specs.Positions.{Row, rows_of, count_below, down}
use Rattle.us_format.specs.Packs.{written}
use Rattle.us_format.specs.Buffers.{piece_buffers}
use Rattle.us_format.specs.Reading.{limit}
use Rattle.us_format.specs.Rules.{IsLawful}
use Rattle.us_format_loops.specs.Laws.{levels_on}
use Rattle.us_format_loops.specs.Nodes.{has_nodes}
use Rattle.us_code.specs.declared.program.Dim.{Dim}
use Rattle.us_code.specs.declared.program.Dim.TheVariants as dim
use Rattle.us_code.specs.Run.{Env, size_of}
use Rattle.us_code.specs.Runs.{World, phases}
use Rattle.us_gen.specs.Goes.{Leads}
use Rattle.us_gen_build.specs.Loops.{Picks, Columns}
use Rattle.us_gen_build_laws.specs.Rows.{row}
use Rattle.us_gen_build_laws.specs.Ready.{AreSorted}
use Rattle.us_build_loops.specs.Orders.{HoldKeys, AreEnough}
use Rattle.us_gen_building.specs.declared.part.PartLevel.{PartLevel}
use Rattle.us_gen_building.specs.declared.part.PartLoops.{PartLoops}
use Rattle.us_gen_building.specs.Levels.{are_last, columns, positions, starts}
use Rattle.us_gen_building.specs.Phases.{order_of, dims_from, all_columns, all_built, all_buffers, counting_phase, building_phase, building_phases}

-- ---- the levels

-- the levels of the format that levels of the loops stand for
abbrev pub level_of : Env → PartLevel → Level
level_of env l = record { kind = l.kind; size = size_of env l.size }

abbrev pub levels_of : Env → List PartLevel → List Level
levels_of env [] = []
levels_of env (l ∷ ls) = level_of env l ∷ levels_of env ls

-- behind a listed level and a slot level there are slot levels alone
abbrev pub FollowsWell : Kind → Bool → Type 0
FollowsWell Full last = Unit {0}
FollowsWell Compressed last = Unit {0}
FollowsWell Listed last = last ≡ true
FollowsWell Slot last = last ≡ true

abbrev pub AreOrderly : List PartLevel → Type 0
AreOrderly [] = Unit {0}
AreOrderly (l ∷ ls) = FollowsWell l.kind (are_last ls) × AreOrderly ls

-- dims numbered below f
abbrev pub IsBelow : ℕ → Dim → Type 0
IsBelow f (dim.Number n) = Unit {0}
IsBelow f (dim.Name d) = d < f
IsBelow f (dim.Len k) = Unit {0}

abbrev pub AllBelow : ℕ → List PartLevel → Type 0
AllBelow f [] = Unit {0}
AllBelow f (l ∷ ls) = IsBelow f l.size × AllBelow f ls

-- numbers of positions within the limit, from n above on, so that a position and a coordinate of a compressed level don't wrap as one number
pub record IsSmall (l : Level) (n : ℕ) : Type 0 where
  pub number : n ≤ limit
  pub starts : has_nodes l.kind ≡ true → n + 1 ≤ limit
  pub pairs : l.kind ≡ Compressed → (q c : ℕ) → q < n → c < l.size → q * l.size + c < 2 ^ 63

abbrev pub AreSmall : List Level → ℕ → List Row → Type 0
AreSmall [] n rows = n ≤ limit
AreSmall (l ∷ ls) n rows = IsSmall l n × AreSmall ls (count_below l.kind l.size n rows) (down l.kind l.size rows)

-- ---- dims

-- the dims of the levels, numbered from name on, tell the numbers of positions, of which there are n in the dim above
abbrev pub HaveDims : Env → ℕ → List PartLevel → List Level → Bool → Dim → ℕ → ℕ → List Row → Type 0
HaveDims env count (l ∷ ls) (k ∷ ks) top above name n rows =
    (size_of env above ≡ n) × (has_nodes l.kind ≡ true → size_of env (starts top name) ≡ n + 1)
    × HaveDims env count ls ks false (positions l.kind (are_last ls) count above (name + 1)) (name + 2) (count_below k.kind k.size n rows)
    (down k.kind k.size rows)
HaveDims env count [] [] top above name n rows = size_of env above ≡ n
HaveDims env count _ _ top above name n rows = ⊥

-- ---- the entries

-- columns hold rows, each coordinate less its lowest
pub record HoldRows (x : PartLoops) (f : ℕ) (rows : List Row) (u : World) : Type 0 where
  pub count : u.env.dims x.count ≡ length rows
  pub long : Columns f (length rows) u.bufs (all_columns x)
  pub coordinates : HoldKeys (map u.bufs (columns x.levels.items)) (length rows) (λ y. (row rows y).rest)
  pub values : (y : ℕ) → y < length rows → cell (u.bufs x.values) y ≡ (row rows y).value

-- the loops of a lawful part, whose rows are these, in any order
pub record AreLoopsOf (x : PartLoops) (f : ℕ) (s : Shape) (p : Part) (m : List Entry) (rows : List Row) (u : World) : Type 0 where
  pub lawful : IsLawful p
  pub matrix : IsMatrixOf s m
  pub shuffled : IsPermutation (rows_of m s p) rows
  pub levels : levels_of u.env x.levels.items ≡ levels_on s p m
  pub below : AllBelow f x.levels.items
  pub count_below : x.count < f
  pub few : length rows ≤ limit
  pub small : AreSmall (levels_on s p m) 1 (rows_of m s p)

-- enough keys, or rows that are sorted
abbrev pub IsOrder : Option ℕ → List Level → List Row → Type 0
IsOrder None ls rows = AreSorted ls rows
IsOrder (Some k) ls rows = (k ≤ length ls) × AreEnough k ls

-- before the phases
pub record IsBuildable (x : PartLoops) (f : ℕ) (s : Shape) (p : Part) (m : List Entry) (rows : List Row) (u : World) : Type 0 where
  pub loops : AreLoopsOf x f s p m rows u
  pub orderly : AreOrderly x.levels.items
  pub order : IsOrder x.keys (levels_on s p m) rows
  pub hold : HoldRows x f rows u

-- between the phases: the turns take the rows in a sorted order, and the dims tell the numbers of positions
pub record IsCounted (x : PartLoops) (f : ℕ) (s : Shape) (p : Part) (m : List Entry) (rows : List Row) (u : World) : Type 0 where
  pub loops : AreLoopsOf x f s p m rows u
  pub hold : HoldRows x f rows u
  pub turns : List Row
  pub place : ℕ → ℕ
  pub shuffled : IsPermutation (rows_of m s p) turns
  pub sorted : AreSorted (levels_on s p m) turns
  pub number : length turns ≡ length rows
  pub within : (y : ℕ) → y < length rows → place y < length rows
  pub turn : (y : ℕ) → y < length rows → row turns y ≡ row rows (place y)
  pub picks : Picks (order_of x.keys f) (f + 1) (length rows) u.bufs place
  pub dims : HaveDims u.env x.count x.levels.items (levels_on s p m) true (dim.Number 1) (dims_from f (length x.levels.items)) 1 turns

-- after the phases
abbrev pub AreBuilt : PartLoops → ℕ → Shape → Part → List Entry → World → Type 0
AreBuilt x f s p m u = map u.bufs (all_buffers (all_built x f)) ≡ map written (piece_buffers s p m)

-- ---- costs

-- of l levels and n entries
abbrev pub counting_cost : ℕ → ℕ → ℕ
counting_cost l n = 1 + (n * l + 1 + (1 + 2 * l + n * (2 + l) + l * (7 * n))) + 2 * l

-- the cells of the buffers too
abbrev pub building_cost : ℕ → ℕ → ℕ → ℕ
building_cost l n cells = 2 * (l + 1) + (1 + 2 * (l + 1) + n * (2 + (l + 1)) + (l + 1) * (7 * n) + (2 * l + 4 * cells)) + 0

abbrev pub cells_of : Shape → Part → List Entry → ℕ
cells_of s p m = sum_by (λ b. b.len) (piece_buffers s p m)

-- ---- laws

abbrev pub CountingCounts : Type 0
CountingCounts =
    (x : PartLoops) (f : ℕ) (s : Shape) (p : Part) (m : List Entry) (rows : List Row) (w : World) → IsBuildable x f s p m rows w
    → Leads f (counting_cost (length x.levels.items) (length rows)) w (phases (counting_phase x f ∷ []) w) (IsCounted x f s p m rows)

abbrev pub BuildingBuilds : Type 0
BuildingBuilds =
    (x : PartLoops) (f : ℕ) (s : Shape) (p : Part) (m : List Entry) (rows : List Row) (w : World) → IsCounted x f s p m rows w
    → Leads (f + 1) (building_cost (length x.levels.items) (length rows) (cells_of s p m)) w (phases (building_phase x f ∷ []) w) (AreBuilt x f s p m)

-- at most 64 steps for each level and one, and for each entry and cell and one
abbrev pub PhasesBuild : Type 0
PhasesBuild =
    (x : PartLoops) (f : ℕ) (s : Shape) (p : Part) (m : List Entry) (rows : List Row) (w : World) → IsBuildable x f s p m rows w
    → Leads f (64 * (1 + length x.levels.items) * (length rows + 1 + cells_of s p m)) w (phases (building_phases x f) w) (AreBuilt x f s p m)
