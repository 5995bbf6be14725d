-- Columns that hold the entries of a part and their coordinates hold its rows.
use Rattle.std.specs.Prelude.{◌≡◌, ℕ, ◌+◌, ◌*◌, ◌<◌, ◌≤◌, List, [], ◌∷◌, map, length, pos, ℤ, None}
use Rattle.std.specs.List.Sorted.{IsPermutation}
use Rattle.us_expr.specs.Tree.{Tree}
use Rattle.us_format.specs.Matrix.{Shape, Entry, IsMatrixOf}
use Rattle.us_format.specs.Declaration.{Part}
use Rattle.us_format.specs.Coordinates.{coordinate}
use Rattle.us_format.specs.Positions.{Row, row_of, rows_of}
use Rattle.us_format.specs.Reading.{limit}
use Rattle.us_format.specs.Rules.{IsLawful}
use Rattle.us_format_loops.specs.Laws.{levels_on}
use Rattle.us_build.specs.Items.{IsAscending}
use Rattle.us_code.specs.Runs.{World, phases}
use Rattle.us_gen.specs.Goes.{Leads}
use Rattle.us_gen_building.specs.declared.part.PartLevel.{PartLevel}
use Rattle.us_gen_building.specs.declared.part.PartLoops.{PartLoops}
use Rattle.us_gen_building.specs.Keys.{order_keys}
use Rattle.us_gen_building.specs.Phases.{building_phases}
use Rattle.us_gen_building.specs.Runs.{levels_of, AreOrderly, AllBelow, AreSmall, HoldRows, AreBuilt, cells_of}

-- a column for each level, which holds the coordinates of the entries there
abbrev pub HoldCoordinates : (ℕ → List ℤ) → ℕ → List Entry → Shape → Part → List Entry → List PartLevel → List Tree → Type 0
HoldCoordinates bufs f m s p es (l ∷ ls) (e ∷ exprs) =
    (l.column < f) × (bufs l.column ≡ map (λ y. pos (coordinate m s p y e)) es) × HoldCoordinates bufs f m s p es ls exprs
HoldCoordinates bufs f m s p es [] [] = Unit {0}
HoldCoordinates bufs f m s p es _ _ = ⊥

-- columns of the entries of a part, in some order: all coordinates, and the values
pub record HoldPart (x : PartLoops) (f : ℕ) (s : Shape) (p : Part) (m es : List Entry) (u : World) : Type 0 where
  pub shuffled : IsPermutation m es
  pub count : u.env.dims x.count ≡ length es
  pub coordinates : HoldCoordinates u.bufs f m s p es x.levels.items p.levels
  pub values : u.bufs x.values ≡ map (λ y. y.v) es
  pub values_below : x.values < f

-- the rows of entries in their order
abbrev pub rows_in : List Entry → Shape → Part → List Entry → List Row
rows_in m s p es = map (row_of m s p) es

abbrev pub EntriesAreRows : Type 0
EntriesAreRows =
    (x : PartLoops) (f : ℕ) (s : Shape) (p : Part) (m es : List Entry) (u : World) → HoldPart x f s p m es u
    → IsPermutation (rows_of m s p) (rows_in m s p es) × HoldRows x f (rows_in m s p es) u

-- ---- the phases on entries

-- a lawful part whose columns hold its entries in the order es
pub record IsGiven (x : PartLoops) (f : ℕ) (s : Shape) (p : Part) (m es : List Entry) (u : World) : Type 0 where
  pub lawful : IsLawful p
  pub matrix : IsMatrixOf s m
  pub levels : levels_of u.env x.levels.items ≡ levels_on s p m
  pub orderly : AreOrderly x.levels.items
  pub below : AllBelow f x.levels.items
  pub count_below : x.count < f
  pub few : length es ≤ limit
  pub small : AreSmall (levels_on s p m) 1 (rows_of m s p)
  pub hold : HoldPart x f s p m es u

abbrev pub Builds : PartLoops → ℕ → Shape → Part → List Entry → List Entry → World → Type 0
Builds x f s p m es w =
    Leads f (64 * (1 + length x.levels.items) * (length es + 1 + cells_of s p m)) w (phases (building_phases x f) w) (AreBuilt x f s p m)

-- with the keys of its levels in any order of the entries, and without an order where they stand in the order of their coordinates
pub record EntriesAreBuilt : Type 0 where
  pub in_any_order :
      (x : PartLoops) (f : ℕ) (s : Shape) (p : Part) (m es : List Entry) (w : World) → x.keys ≡ order_keys x.levels.items
      → IsGiven x f s p m es w → Builds x f s p m es w
  pub in_order :
      (x : PartLoops) (f : ℕ) (s : Shape) (p : Part) (m es : List Entry) (w : World) → x.keys ≡ None
      → IsAscending (rows_in m s p es) → IsGiven x f s p m es w → Builds x f s p m es w
