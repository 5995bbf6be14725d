-- The laws.
use Rattle.std.specs.Prelude.{ℕ, suc, ◌+◌, ◌*◌, ◌^◌, ◌<◌, ◌≤◌, ◌≡◌, ◌≢◌, ℤ, pos, List, [], ◌∷◌, map, length, take, drop, slice_get, slice_index_or, IsTrue, IsFalse, Some, Contains}
use Rattle.us_expr.specs.Range.{LiesIn}
use Rattle.us_expr.specs.Tree.{Tree}
use Rattle.us_format.specs.Known.{Steps, given_steps}
use Rattle.us_format.specs.Lists.{cell, lower, rank}
use Rattle.std.specs.List.{sum_by}
use Rattle.us_format.specs.Matrix.{Shape, Entry, IsMatrixOf}
use Rattle.us_format.specs.Declaration.{Part, Declaration}
use Rattle.us_format.specs.Queries.{extents_of}
use Rattle.us_format.specs.Coordinates.{coordinates, level_range, value_at}
use Rattle.us_format.specs.Kinds.{Level, levels_of, is_loose}
use Rattle.us_format.specs.Positions.{row_of, rows_of, last_place}
use Rattle.us_format.specs.Buffers.{buffers, parts_of, size}
use Rattle.us_format.specs.Reading.{all_contents, limit}
use Rattle.us_format.specs.Meaning.{part_values}
use Rattle.us_format.specs.Recover.{Found, Values, give_value, plan_of, recover, recovered}
use Rattle.us_format.specs.Rules.{IsLawful, ArePacksLawful, IsLawfulDeclaration}
use Rattle.us_format.specs.Laws.{contents_of, position_of}
use Rattle.us_format_loops.specs.Nodes.{is_slot, has_nodes, are_slots, are_groups, node_levels, is_tight, count_after}
use Rattle.us_format_loops.specs.Ways.{Place, HoldsLevels, IsWay, end_of, way_of}

-- the levels of a part on a matrix
abbrev pub levels_on : Shape → Part → List Entry → List Level
levels_on s p m = levels_of s (extents_of m s p) p

-- the position of an entry after the first k levels
abbrev pub position_after : Shape → Part → List Entry → ℕ → Entry → ℕ
position_after s p m k x = last_place (take k (levels_on s p m)) (rows_of m s p) (row_of m s p x)

-- the values of a part on a matrix
abbrev pub values_on : Shape → Part → List Entry → List ℤ
values_on s p m = part_values s p (contents_of s p m)

-- ---- starts

abbrev pub StartsCountNodes : Type 0
StartsCountNodes =
    (s : Shape) (p : Part) (m : List Entry) → IsLawful p → IsMatrixOf s m
    → HoldsLevels (levels_on s p m) (contents_of s p m).cells 1 (rows_of m s p)

-- ---- ways

-- the positions and the coordinates of an entry, level by level
abbrev pub way_on : Shape → Part → List Entry → Entry → List Place
way_on s p m x = way_of (levels_on s p m) (rows_of m s p) (row_of m s p x)

-- a way down the levels of a part, by its buffers
abbrev pub IsWayOn : Shape → Part → List Entry → List Place → Type 0
IsWayOn s p m = IsWay (levels_on s p m) (contents_of s p m).cells 0

pub record HaveOneWay (s : Shape) (p : Part) (m : List Entry) : Type 0 where
  pub way : (x : Entry) → Contains m x → IsWayOn s p m (way_on s p m x)
  pub positions : (x : Entry) (k : ℕ) → end_of 0 (take k (way_on s p m x)) ≡ position_after s p m k x
  pub end : (x : Entry) → end_of 0 (way_on s p m x) ≡ position_of s p m x
  -- below the sizes of the levels
  pub within : (x : Entry) → Contains m x → (k : ℕ) (l : Level) → slice_get (levels_on s p m) k ≡ Some l → slice_index_or (coordinates m s p x) k 0 < l.size
  pub coordinates : (x : Entry) → Contains m x → map (λ a. a.coordinate) (way_on s p m x) ≡ coordinates m s p x
  -- each way to the last position of an entry is the entry's
  pub only : (x : Entry) → Contains m x → (ws : List Place) → IsWayOn s p m ws → end_of 0 ws ≡ position_of s p m x → ws ≡ way_on s p m x
  pub value : (x : Entry) → Contains m x → cell (values_on s p m) (position_of s p m x) ≡ x.v
  -- a value that isn't 0 is that of an entry
  pub entry : (y : ℕ) → y < length (values_on s p m) → cell (values_on s p m) y ≢ pos 0 → (x : Entry) × Contains m x × (position_of s p m x ≡ y)

abbrev pub EntriesHaveOneWay : Type 0
EntriesHaveOneWay = (s : Shape) (p : Part) (m : List Entry) → IsLawful p → IsMatrixOf s m → HaveOneWay s p m

-- ---- recovery

-- the coordinates of an entry, and what a part holds of its queries
abbrev pub found_of : Shape → Part → List Entry → Entry → Found
found_of s p m x = record { coords = coordinates m s p x; extents = (contents_of s p m).extents; tables = (contents_of s p m).tables }

-- the values that expressions have at an entry
abbrev pub values_at : Shape → Part → List Entry → Entry → List Tree → Values
values_at s p m x es = map (λ e. (e, value_at m s p x e)) es

-- step by step, where es have their values: the value of the step's expression at the entry is given, and lies in its range
abbrev pub GiveValues : Shape → Part → List Entry → Entry → List Tree → Steps → Type 0
GiveValues s p m x es [] = Unit {0}
GiveValues s p m x es (a ∷ steps) =
    (give_value s p (found_of s p m x) (values_at s p m x es) a.1 ≡ Some (value_at m s p x a.0))
    × LiesIn (value_at m s p x a.0) (level_range s (contents_of s p m).extents p a.0)
    × GiveValues s p m x (a.0 ∷ es) steps

-- both indices, by all steps and by the plan
pub record IsRecovered (s : Shape) (p : Part) (m : List Entry) (x : Entry) : Type 0 where
  pub by_steps : recovered s p (found_of s p m x) ≡ Some (pos x.i, pos x.j)
  pub by_plan : recover s p (found_of s p m x) (plan_of p.levels p.queries) [] ≡ Some (pos x.i, pos x.j)
  pub steps : GiveValues s p m x [] (given_steps p.levels p.queries (length p.levels))
  pub plan : GiveValues s p m x [] (plan_of p.levels p.queries)

abbrev pub EntriesAreRecovered : Type 0
EntriesAreRecovered = (s : Shape) (p : Part) (m : List Entry) → IsLawful p → IsMatrixOf s m → (x : Entry) → Contains m x → IsRecovered s p m x

-- ---- positions

-- how many positions there are after the first k levels
abbrev pub number_after : Shape → Part → List Entry → ℕ → ℕ
number_after s p m k = count_after (take k (levels_on s p m)) 1 (rows_of m s p)

-- where only slot levels follow the first k levels
pub record SlotsFollow (s : Shape) (p : Part) (m : List Entry) (k : ℕ) : Type 0 where
  -- positions and their number stay the same
  pub position : (x : Entry) → position_after s p m k x ≡ position_of s p m x
  pub number : number_after s p m k ≡ length (values_on s p m)
  -- different entries have different positions
  pub apart : (x y : Entry) → Contains m x → Contains m y → position_after s p m k x ≡ position_after s p m k y → x ≡ y

abbrev pub SlotsKeepPositions : Type 0
SlotsKeepPositions =
    (s : Shape) (p : Part) (m : List Entry) → IsLawful p → IsMatrixOf s m → (k : ℕ) → IsTrue (are_slots (drop k (levels_on s p m))) → SlotsFollow s p m k

-- each position is that of an entry, in the order of the coordinates
pub record IsFilled (s : Shape) (p : Part) (m : List Entry) : Type 0 where
  pub entry : (y : ℕ) → y < length (values_on s p m) → (x : Entry) × Contains m x × (position_of s p m x ≡ y)
  pub number : length (values_on s p m) ≡ length m
  pub rank : (x : Entry) → Contains m x → position_of s p m x ≡ rank (map (coordinates m s p) m) (coordinates m s p x)

abbrev pub TightPartsAreFilled : Type 0
TightPartsAreFilled = (s : Shape) (p : Part) (m : List Entry) → IsLawful p → IsMatrixOf s m → IsTrue (is_tight (levels_on s p m)) → IsFilled s p m

-- the coordinates of an entry at the first k levels
abbrev pub first_coordinates : Shape → Part → List Entry → ℕ → Entry → List ℕ
first_coordinates s p m k x = take k (coordinates m s p x)

-- positions after the first k levels and the coordinates there
pub record InOrder (s : Shape) (p : Part) (m : List Entry) (k : ℕ) (x y : Entry) : Type 0 where
  pub below : position_after s p m k x < number_after s p m k
  -- equal positions mean equal coordinates
  pub apart : position_after s p m k x ≡ position_after s p m k y → first_coordinates s p m k x ≡ first_coordinates s p m k y
  -- of full and compressed levels also the other way around, and lower coordinates mean a lower position
  pub same :
      IsTrue (are_groups (take k (levels_on s p m))) → first_coordinates s p m k x ≡ first_coordinates s p m k y
      → position_after s p m k x ≡ position_after s p m k y
  pub rises :
      IsTrue (are_groups (take k (levels_on s p m))) → IsTrue (lower (first_coordinates s p m k x) (first_coordinates s p m k y))
      → position_after s p m k x < position_after s p m k y

abbrev pub PositionsFollowCoordinates : Type 0
PositionsFollowCoordinates =
    (s : Shape) (p : Part) (m : List Entry) → IsLawful p → IsMatrixOf s m → (k : ℕ) (x y : Entry) → Contains m x → Contains m y → InOrder s p m k x y

-- ---- kinds

-- every level after a loose level is loose
abbrev pub StaysLoose : Part → Type 0
StaysLoose p = (k : ℕ) → suc k < length p.levels → IsTrue (is_loose p k) → IsTrue (is_loose p (suc k))

-- behind the last level that isn't a slot level, at it, and before it
pub record LevelsSplit : Type 0 where
  pub behind : (ls : List Level) (k : ℕ) → node_levels ls ≤ k → IsTrue (are_slots (drop k ls))
  pub last : (ls : List Level) (k : ℕ) (l : Level) → node_levels ls ≡ suc k → slice_get ls k ≡ Some l
      → IsFalse (is_slot l.kind) × (is_tight ls ≡ has_nodes l.kind)
  pub before : (s : Shape) (extents : List ℕ) (p : Part) → StaysLoose p → (k : ℕ) → k < node_levels (levels_of s extents p)
      → IsTrue (are_groups (take k (levels_of s extents p)))

-- ---- numbers

-- the numbers of positions of a part whose declaration has a size within the limit
pub record AreNumbersSmall (s : Shape) (p : Part) (m : List Entry) : Type 0 where
  pub numbers : (k : ℕ) → number_after s p m k ≤ limit
  -- a position above a level with nodes and a coordinate of it don't wrap as one number
  pub pairs :
      (k : ℕ) (l : Level) → slice_get (levels_on s p m) k ≡ Some l → IsTrue (has_nodes l.kind) → l.size < 2 ^ 38
      → (q c : ℕ) → q < number_after s p m k → c < l.size → q * l.size + c < 2 ^ 63

abbrev pub NumbersStaySmall : Type 0
NumbersStaySmall =
    (s : Shape) (d : Declaration) (m : List Entry) → IsLawfulDeclaration d → size s d m ≤ limit
    → (p : Part) (part : List Entry) → Contains (parts_of s d m) (p, part) → AreNumbersSmall s p part

-- ---- the parts of a declaration

-- the parts with their entries are lawful parts on matrices of the shape, whose buffers are read as what they hold; the entries are those of the matrix
pub record ShareEntries (s : Shape) (d : Declaration) (m : List Entry) : Type 0 where
  pub lawful : (x : Part × List Entry) → Contains (parts_of s d m) x → IsLawful x.0 × ArePacksLawful x.0 × IsMatrixOf s x.1
  pub held : all_contents d.parts (buffers s d m) ≡ map (λ x. (x.0, contents_of s x.0 x.1)) (parts_of s d m)
  pub number : sum_by (λ x. length x.1) (parts_of s d m) ≡ length m
  pub from : (x : Part × List Entry) → Contains (parts_of s d m) x → (e : Entry) → Contains x.1 e → Contains m e
  pub there : (e : Entry) → Contains m e → (x : Part × List Entry) × Contains (parts_of s d m) x × Contains x.1 e

abbrev pub PartsShareEntries : Type 0
PartsShareEntries = (s : Shape) (d : Declaration) (m : List Entry) → IsLawfulDeclaration d → IsMatrixOf s m → ShareEntries s d m
