-- Loops that spread the rows or the columns over lanes: each index, in order, into the first lane of least load.
use Rattle.std.specs.Prelude.{◌≡◌, ◌≢◌, ℕ, ◌+◌, ◌*◌, ◌^◌, ◌<◌, ◌≤◌, true, false, List, [], ◌∷◌, length, slice_index_or, ℤ, pos, Option, Some}
use Rattle.std.specs.List.Sorted.{IsPermutation}
use Rattle.us_code.specs.declared.program.Dim.{Dim}
use Rattle.us_code.specs.declared.program.Dim.TheVariants as dim
use Rattle.us_code.specs.declared.program.Buf.TheVariants as buf
use Rattle.us_code.specs.declared.program.CellKind.TheVariants as kind
use Rattle.us_code.specs.declared.pieces.Columns.{Columns}
use Rattle.us_code.specs.Plain.{TermTree, Number, Reg, Size, Add, Mul, Code, End, Load, Var, Put, Set, For, If, When, ◌+++◌}
use Rattle.us_code.specs.Run.{Env, State, exec, size_of}
use Rattle.us_code.specs.Typing.{Context, BufKind, is_some, Typed, sees_dim}
use Rattle.us_expr.specs.declared.queries.Axis.{Axis}
use Rattle.us_format.specs.Matrix.{Entry, Shape, index_at, indices}
use Rattle.us_format.specs.Queries.{weight, lane_at, slot_at, schedule_extent, rows_cell}
use Rattle.us_format.specs.Reading.{limit}
use Rattle.us_gen.specs.Rooms.{FreshFrom}
use Rattle.us_query_loops.specs.Sorted.{entry_at}
use Rattle.us_gen_query.specs.declared.scheduling.ScheduleBuffers.{ScheduleBuffers}
use Rattle.us_gen_query.specs.Filling.{words, Visible}
use Rattle.us_gen_query.specs.Counting.{no_value, one_word, IsZeros}
use Rattle.us_gen_query.specs.Reordering.{at_index, counts, passed, AreIndices}

-- one more in buffer b at the index
abbrev pub one_more : ℕ → ℕ → Code
one_more b n = Load (n + 3) (buf.New b) (Reg (n + 2)) (Set (buf.New b) (Reg (n + 2)) (Add (Reg (n + 3)) (Number 1)) End)

-- a lane's load in buffer w against the least so far, in register n + 3
abbrev pub lane_turn : ℕ → ℕ → Code
lane_turn w n = Load (n + 5) (buf.New w) (Reg (n + 4)) (If (Reg (n + 5)) false (Reg (n + 3)) (Put (n + 3) (Reg (n + 5)) (Put (n + 2) (Reg (n + 4)) End)) false End End)

-- the first of the lanes whose load in buffer w is the least goes to register n + 2, and its load to n + 3
abbrev pub least : ℕ → ℕ → ℕ → Code → Code
least w lanes n rest =
    Var (n + 2) (Number 0) (Var (n + 3) (Number no_value) (For (n + 4) (dim.Number lanes) (lane_turn w n) rest))

-- one more slot than register n + 8 says
abbrev pub slots : ℕ → TermTree
slots n = Add (Reg (n + 8)) (Number 1)

-- keeps the most slots
abbrev pub most : ℕ → Code
most n = If (Reg n) false (slots n) (Put n (slots n) End) false End End

-- the lane in register n + 7 gets the index in register n + 1: one more slot of it is used, and its load is more by the index's count, in register n + 6. Register n
-- keeps the most slots
abbrev pub take_slot : ScheduleBuffers → ℕ → Code
take_slot b n =
    Load (n + 8) (buf.New b.used) (Reg (n + 7)) (Set (buf.New b.lane) (Reg (n + 1)) (Reg (n + 7)) (Set (buf.New b.slot) (Reg (n + 1)) (Reg (n + 8)) (Set (buf.New b.used) (Reg (n + 7)) (slots n)
    (Set (buf.New b.loads) (Reg (n + 7)) (Add (Reg (n + 3)) (Reg (n + 6))) (most n)))))

-- the count of the index, and a slot in its lane
abbrev pub spread_turn : ScheduleBuffers → ℕ → ℕ → Code
spread_turn b lanes n = least b.loads lanes n (Load (n + 6) (buf.New b.counts) (Reg (n + 1)) (When (Reg (n + 2)) (dim.Number lanes) (n + 7) (take_slot b n) false End End))

-- spreads the indices, and leaves the most slots of a lane
abbrev pub spread : Dim → ScheduleBuffers → ℕ → ℕ → Code
spread size b lanes n = Var n (Number 0) (For (n + 1) size (spread_turn b lanes n) (Set (buf.New b.extent) (Number 0) (Reg n) End))

-- the entry's lane and slot are those of its index
abbrev pub both_looked_up : ScheduleBuffers → ℕ → Code
both_looked_up b n =
    Load (n + 3) (buf.New b.lane) (Reg (n + 2)) (Set (buf.New b.lanes) (Reg n) (Reg (n + 3)) (Load (n + 4) (buf.New b.slot) (Reg (n + 2)) (Set (buf.New b.slots) (Reg n) (Reg (n + 4)) End)))

-- counts the entries of each index, spreads the indices over the lanes, and gives each entry its index's lane and slot
abbrev pub schedule : Columns → ℕ → Dim → ℕ → ScheduleBuffers → ℕ → Code
schedule cs i size lanes b n =
    at_index cs i size n (one_more b.counts n) +++ (spread size b lanes (n + 4) +++ at_index cs i size (n + 13) (both_looked_up b (n + 13)))

-- the table of the lanes: at each lane and slot the index there, plus 1
abbrev pub rows : Dim → ScheduleBuffers → Dim → ℕ → ℕ → ℕ → Code
rows size b table extent t n =
    For n size (Load (n + 1) (buf.New b.lane) (Reg n) (Load (n + 2) (buf.New b.slot) (Reg n)
    (When (Add (Mul (Reg (n + 1)) (Size (dim.Name extent))) (Reg (n + 2))) table (n + 3) (Set (buf.New t) (Reg (n + 3)) (Add (Reg n) (Number 1)) End) false End End))) End

-- ---- typing

pub record HasBuffers (bufs : ℕ → Option BufKind) (cs : Columns) (size : Dim) (n : ℕ) (b : ScheduleBuffers) : Type 0 where
  pub counts_in : bufs b.counts ≡ Some (counts size)
  pub lane : bufs b.lane ≡ Some record { len = size; cell = kind.Below (dim.Number n) }
  pub slot : bufs b.slot ≡ Some (counts size)
  pub loads : bufs b.loads ≡ Some (counts (dim.Number n))
  pub used : bufs b.used ≡ Some (counts (dim.Number n))
  pub extent : bufs b.extent ≡ Some one_word
  pub lanes : bufs b.lanes ≡ Some (words cs)
  pub slots_in : bufs b.slots ≡ Some (words cs)

abbrev pub ScheduleTyped : Type 0
ScheduleTyped =
    (g : Context) (cs : Columns) (i : ℕ) (size : Dim) (lanes : ℕ) (b : ScheduleBuffers) (n : ℕ) → FreshFrom g n → Visible g cs → sees_dim g size ≡ true → g.bufs i ≡ Some (words cs)
    → HasBuffers g.bufs cs size lanes b → Typed g (schedule cs i size lanes b n)

-- the table of the lanes is typed where its length is a dim, as is the number of slots
abbrev pub RowsTyped : Type 0
RowsTyped =
    (g : Context) (size : Dim) (b : ScheduleBuffers) (lanes : ℕ) (table : Dim) (extent t n : ℕ) → FreshFrom g n → sees_dim g size ≡ true → sees_dim g table ≡ true → is_some (g.dims extent) ≡ true
    → g.bufs b.lane ≡ Some record { len = size; cell = kind.Below (dim.Number lanes) } → g.bufs b.slot ≡ Some (counts size) → g.bufs t ≡ Some (counts table)
    → Typed g (rows size b table extent t n)

-- ---- runs

-- a number is none of these, and each of these is there once
abbrev pub IsNone : ℕ → List ℕ → Type 0
IsNone x [] = Unit {0}
IsNone x (y ∷ ys) = (x ≢ y) × IsNone x ys

abbrev pub AreApart : List ℕ → Type 0
AreApart [] = Unit {0}
AreApart (x ∷ xs) = IsNone x xs × AreApart xs

-- the buffers that a schedule writes
abbrev pub written : ScheduleBuffers → List ℕ
written b = b.counts ∷ b.lane ∷ b.slot ∷ b.loads ∷ b.used ∷ b.extent ∷ b.lanes ∷ b.slots ∷ []

-- their lengths in front of it, for m entries, so many indices and n lanes, with zeros where it counts
pub record AreReady (m size n : ℕ) (b : ScheduleBuffers) (bufs : ℕ → List ℤ) : Type 0 where
  pub counts_in : IsZeros (bufs b.counts) size
  pub lane : length (bufs b.lane) ≡ size
  pub slot : length (bufs b.slot) ≡ size
  pub loads : IsZeros (bufs b.loads) n
  pub used : IsZeros (bufs b.used) n
  pub extent : length (bufs b.extent) ≡ 1
  pub lanes : length (bufs b.lanes) ≡ m
  pub slots_in : length (bufs b.slots) ≡ m

-- two buffers hold the lane and the slot of each index of a matrix
pub record HoldPlaces (shape : Shape) (m : List Entry) (axis : Axis) (n : ℕ) (b : ScheduleBuffers) (bufs : ℕ → List ℤ) : Type 0 where
  pub lane_long : length (bufs b.lane) ≡ indices axis shape
  pub lane : (a : ℕ) → a < indices axis shape → slice_index_or (bufs b.lane) a (pos 0) ≡ pos (lane_at m shape axis n a)
  pub slot_long : length (bufs b.slot) ≡ indices axis shape
  pub slot : (a : ℕ) → a < indices axis shape → slice_index_or (bufs b.slot) a (pos 0) ≡ pos (slot_at m shape axis n a)

-- what `schedule` leaves of the matrix m, whose entries stand in the columns in the order es: the lane and the slot of each index and of each entry's, and the most
-- slots of a lane
pub record Scheduled (shape : Shape) (m es : List Entry) (axis : Axis) (n : ℕ) (b : ScheduleBuffers) (next : ℕ) (s u : State) : Type 0 where
  pub places : HoldPlaces shape m axis n b u.bufs
  pub wide : length (u.bufs b.extent) ≡ 1
  pub extent : slice_index_or (u.bufs b.extent) 0 (pos 0) ≡ pos (schedule_extent m shape axis n)
  pub lanes_long : length (u.bufs b.lanes) ≡ length es
  pub lanes : (y : ℕ) → y < length es → slice_index_or (u.bufs b.lanes) y (pos 0) ≡ pos (lane_at m shape axis n (index_at axis (entry_at es y)))
  pub slots_long : length (u.bufs b.slots) ≡ length es
  pub slots_in : (y : ℕ) → y < length es → slice_index_or (u.bufs b.slots) y (pos 0) ≡ pos (slot_at m shape axis n (index_at axis (entry_at es y)))
  pub others : (c : ℕ) → IsNone c (written b) → u.bufs c ≡ s.bufs c
  pub regs : (r : ℕ) → r < next → u.regs r ≡ s.regs r
  pub steps : u.steps ≤ s.steps + length es * 12 + indices axis shape * (n * 5 + 13) + 5
  pub stuck : u.stuck ≡ s.stuck

abbrev pub Schedules : Type 0
Schedules =
    (env : Env) (cs : Columns) (i : ℕ) (size : Dim) (n : ℕ) (b : ScheduleBuffers) (next : ℕ) (shape : Shape) (m es : List Entry) (axis : Axis) (s : State)
    → IsPermutation m es → env.dims cs.count ≡ length es → length es < 2 ^ 62 → size_of env size ≡ indices axis shape
    → AreIndices (s.bufs i) (length es) (indices axis shape) (λ x. index_at axis (entry_at es x)) → 0 < n → n * schedule_extent m shape axis n ≤ limit
    → AreReady (length es) (indices axis shape) n b s.bufs → AreApart (i ∷ written b) → Scheduled shape m es axis n b next s (exec env (schedule cs i size n b next) s)

-- what `rows` leaves: the table of the lanes in buffer t
pub record Tabled (shape : Shape) (m : List Entry) (axis : Axis) (n t next : ℕ) (s u : State) : Type 0 where
  pub long : length (u.bufs t) ≡ n * schedule_extent m shape axis n
  pub cells : (x : ℕ) → x < n * schedule_extent m shape axis n → slice_index_or (u.bufs t) x (pos 0) ≡ pos (rows_cell m shape axis n x)
  pub others : (c : ℕ) → c ≢ t → u.bufs c ≡ s.bufs c
  pub regs : (r : ℕ) → r < next → u.regs r ≡ s.regs r
  pub steps : u.steps ≡ s.steps + 1 + indices axis shape * 5
  pub stuck : u.stuck ≡ s.stuck

abbrev pub TablesRows : Type 0
TablesRows =
    (env : Env) (size : Dim) (n : ℕ) (b : ScheduleBuffers) (table : Dim) (extent t next : ℕ) (shape : Shape) (m : List Entry) (axis : Axis) (s : State) → length m < 2 ^ 62
    → size_of env size ≡ indices axis shape → 0 < n → n * schedule_extent m shape axis n ≤ limit → env.dims extent ≡ schedule_extent m shape axis n
    → size_of env table ≡ n * schedule_extent m shape axis n → HoldPlaces shape m axis n b s.bufs → IsZeros (s.bufs t) (n * schedule_extent m shape axis n)
    → b.lane ≢ t → b.slot ≢ t → Tabled shape m axis n t next s (exec env (rows size b table extent t next) s)

-- how many of all entries have an index is its weight in the matrix
abbrev pub PassedAreWeights : Type 0
PassedAreWeights = (m es : List Entry) (axis : Axis) → IsPermutation m es → (a : ℕ) → passed (λ x. index_at axis (entry_at es x)) (length es) a ≡ weight m axis a
