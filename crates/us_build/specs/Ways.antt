-- What is left of a walk down the levels.
use Rattle.std.specs.Prelude.{ℕ, ◌+◌, ◌-◌, ◌*◌, ◌<◌, ◌≤◌, ◌^◌, List, [], ◌∷◌, length, drop, ◌≡◌, Bool, true, false, ◌&&◌, nat_lt, All}
use Rattle.us_matrix.specs.declared.matrix.Triple.{Triple}
use Rattle.us_matrix.specs.declared.shape.Shape as code
use Rattle.us_format.specs.declared.Kind.{Kind}
use Rattle.us_format.specs.declared.Kind.TheVariants.{Full}
use Rattle.us_format.specs.Buffers.{buffers_at, level_buffers, piece_buffers}
use Rattle.us_format.specs.Declaration.{Part}
use Rattle.us_format.specs.Kinds as plain
use Rattle.us_format.specs.Matrix.{Entry, Shape}
use Rattle.us_format.specs.Packs.{Buffer}
use Rattle.us_format.specs.Positions.{Row, count_below, down}
use Rattle.us_format.specs.Program.{plain_entries, plain_shape}
use Rattle.us_format.specs.Queries.{extents_of}
use Rattle.us_format.specs.Reading.{limit}
use Rattle.us_build.specs.declared.items.Item.{Item}
use Rattle.us_build.specs.declared.levels.Level.{Level}
use Rattle.us_build.specs.Items.{rows_at}
use Rattle.us_build.specs.Ready.{AreReady}
use Rattle.us_build.specs.Sizes.{plain_levels}

-- the levels that are left, how many positions there are before them, and the rows there
pub record Way : Type 0 where
  pub levels : List plain.Level
  pub positions : ℕ
  pub rows : List Row

-- the buffers that are left, those of the levels and the values
abbrev pub buffers_left : Way → List Buffer
buffers_left w = level_buffers w.levels w.positions w.rows

-- the buffers of the first of these levels
abbrev pub first_buffers : List plain.Level → ℕ → List Row → List Buffer
first_buffers [] n rows = []
first_buffers (l ∷ ls) n rows = buffers_at l.kind l.size n rows

-- what is left one level down
abbrev pub way_below : List plain.Level → ℕ → List Row → Way
way_below [] n rows = record { levels = []; positions = n; rows = rows }
way_below (l ∷ ls) n rows = record { levels = ls; positions = count_below l.kind l.size n rows; rows = down l.kind l.size rows }

abbrev pub is_full : Kind → Bool
is_full Full = true
is_full _ = false

-- whether the first of these levels is full and has more positions than the limit
abbrev pub is_first_long : List plain.Level → ℕ → Bool
is_first_long [] n = false
is_first_long (l ∷ ls) n = is_full l.kind && nat_lt limit (n * l.size)

-- all levels of a part are left, and of the matrix the buffers left are those of the part
pub record IsStartOf (s : Shape) (p : Part) (m : List Entry) (w : Way) : Type 0 where
  pub levels : w.levels ≡ plain.levels_of s (extents_of m s p) p
  pub positions : w.positions ≡ 1
  pub buffers : buffers_left w ≡ piece_buffers s p m

-- the same for a matrix of the program
abbrev pub IsStartOn : code.Shape → Part → List Triple → Way → Type 0
IsStartOn shape p entries w = IsStartOf (plain_shape shape) p (plain_entries entries) w

-- ---- as the program keeps it

-- the way of items that have gone down the first `done` levels to so many positions
abbrev pub way_of : List Level → ℕ → ℕ → List Item → Way
way_of levels done n items = record { levels = plain_levels (drop done levels); positions = n; rows = rows_at ((6 - length levels) + done) items }

-- such items are ready for the levels that are left
pub record IsOnWay (levels : List Level) (done n : ℕ) (items : List Item) : Type 0 where
  pub few_levels : length levels ≤ 6
  pub gone : done ≤ length levels
  pub sizes : All (λ l. l.size < 2 ^ 38) levels
  pub few : length items ≤ limit
  pub positions : n ≤ limit
  pub ready : AreReady (plain_levels (drop done levels)) n (rows_at ((6 - length levels) + done) items)
