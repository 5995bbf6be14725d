-- What the phases that build a part's buffers do.
use Rattle.std.specs.Prelude.{◌≡◌, ℕ, ◌+◌, ◌*◌, ◌^◌, ◌<◌, ◌≤◌, Bool, true, false, List, ◌++◌, map, length, take, drop, All, Some}
use Rattle.std.specs.List.{filter, sum, sum_by}
use Rattle.us_format.specs.Matrix.{Entry, Shape, IsMatrixOf}
use Rattle.us_format.specs.Declaration.{Part, has_extent, has_table}
use Rattle.us_format.specs.Packs.{Buffer, written}
use Rattle.us_format.specs.Buffers.{extent_buffer, table_buffer, part_buffers, part_counts}
use Rattle.us_format.specs.Reading.{extent_count, table_count, limit}
use Rattle.us_build.specs.Items.{IsAscending}
use Rattle.us_code.specs.declared.pieces.Columns.{Columns}
use Rattle.us_code.specs.Plain.{PhaseTree}
use Rattle.us_code.specs.Runs.{World, phases}
use Rattle.us_code.specs.Typing.{Context, is_some, after_phases, sees_all, are_distinct, is_listed}
use Rattle.us_limits.specs.Small.{KeepText}
use Rattle.us_limits.specs.Orders.{HaveNoOrder}
use Rattle.us_gen.specs.Goes.{Leads}
use Rattle.us_gen_query.specs.Counting.{one_word}
use Rattle.us_gen_query.specs.Filling.{column, width, words, Visible}
use Rattle.us_gen_counting.specs.Entries.{HoldEntries, HoldVariables}
use Rattle.us_gen_counting.specs.Rooms.{RoomFrom, Fit}
use Rattle.us_gen_building.specs.Entries.{rows_in}

-- ---- what is given

-- a column for each variable of a part, and a buffer for each of its extents and tables, none twice; all numbers are below n
pub record NamesQueries (p : Part) (cs : Columns) (bs : List ℕ) (n : ℕ) : Type 0 where
  pub variables : length cs.vars.items ≡ p.names
  pub columns : (c : ℕ) → c < width cs → column cs c < n
  pub count : cs.count < n
  pub values : cs.v < n
  pub buffers : length bs ≡ extent_count p + table_count p
  pub low : (b : ℕ) → is_listed b bs ≡ true → b < n
  pub once : are_distinct bs ≡ true

-- the extents of a part, and then its tables
abbrev pub query_buffers : Shape → Part → List Entry → List Buffer
query_buffers s p m = map (extent_buffer m s) (filter has_extent p.queries) ++ map (table_buffer m s) (filter has_table p.queries)

-- the part's share of the size
abbrev pub share : Shape → Part → List Entry → ℕ
share s p m = sum_by (λ b. b.len) (part_buffers s p m) + sum (part_counts s p m)

-- the columns hold the entries m of a part in the order es and the values of its variables, and the buffers are its extents and its tables
pub record HoldsQueries (w : World) (s : Shape) (p : Part) (cs : Columns) (bs : List ℕ) (m es : List Entry) : Type 0 where
  pub matrix : IsMatrixOf s m
  pub rows : s.rows < 2 ^ 31
  pub cols : s.cols < 2 ^ 31
  pub entries : HoldEntries w.env w.bufs cs m es
  pub variables : HoldVariables w.bufs cs s m es p.queries
  pub buffers : map w.bufs bs ≡ map written (query_buffers s p m)
  pub few : length es ≤ limit
  pub small : share s p m ≤ limit

-- in any order, where the phases put the entries in order; else in ascending order of their lists of coordinates
abbrev pub MayStand : Bool → Shape → Part → List Entry → List Entry → Type 0
MayStand true s p m es = Unit {0}
MayStand false s p m es = IsAscending (rows_in m s p es)

-- the columns of the entries and of the variables are words, as many as the entries; an extent is a word, and tables are there
pub record SeesQueries (g : Context) (p : Part) (cs : Columns) (bs : List ℕ) : Type 0 where
  pub columns : Visible g cs
  pub values : g.bufs cs.v ≡ Some (words cs)
  pub extents : All (λ b. g.bufs b ≡ Some one_word) (take (extent_count p) bs)
  pub tables : All (λ b. is_some (g.bufs b) ≡ true) (drop (extent_count p) bs)

-- ---- what is built

-- the buffers of the queries, and behind them new ones with numbers from n to n + 1023, none twice
pub record AreNewBehind (bs out : List ℕ) (n : ℕ) : Type 0 where
  pub made : List ℕ
  pub is : out ≡ bs ++ made
  pub once : are_distinct out ≡ true
  pub own : (b : ℕ) → is_listed b made ≡ true → (n ≤ b) × (b < n + 1024)

-- from columns that hold the entries of a part and buffers that are its extents and tables, the phases lead to all its buffers; they are typed wherever there
-- is room, and they keep the limits of a program's text. Without an order they sort nothing
pub record BuildsPart (sorts : Bool) (s : Shape) (p : Part) (cs : Columns) (bs : List ℕ) (n : ℕ) (ps : List PhaseTree) (out : List ℕ) : Type 0 where
  pub leads :
      (w : World) (m es : List Entry) → HoldsQueries w s p cs bs m es → MayStand sorts s p m es
      → Leads n (64 * ((1 + length p.levels + length p.queries) * (length es + 1 + share s p m))) w (phases ps w)
      (λ u. map u.bufs out ≡ map written (part_buffers s p m))
  pub typed : (g : Context) → RoomFrom g n → SeesQueries g p cs bs → Fit g ps n (n + 1024) × (sees_all (after_phases g ps) out ≡ true)
  pub new : AreNewBehind bs out n
  pub few : length out ≤ 1000
  pub text : KeepText 4096 ps
  pub unsorted : sorts ≡ false → HaveNoOrder ps
