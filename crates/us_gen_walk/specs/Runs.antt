-- What the loops do on the buffers of a part: their block once for each entry, by position.
use Rattle.std.specs.Prelude.{◌≡◌, ◌≢◌, ℕ, ◌+◌, ◌*◌, ◌^◌, ◌<◌, ◌≤◌, Bool, false, cond, nat_lt, List, [], ◌∷◌, length, drop, slice_index_or, ℤ, pos, Some, Contains}
use Rattle.std.specs.List.{count_by}
use Rattle.us_code.specs.declared.program.Dim.{Dim}
use Rattle.us_code.specs.Plain.{Code}
use Rattle.us_code.specs.Run.{Env, State, size_of, value}
use Rattle.us_code_laws.specs.Does.{Does}
use Rattle.us_expr.specs.Tree.{Tree}
use Rattle.us_format.specs.declared.Kind.{Kind}
use Rattle.us_format.specs.declared.Kind.TheVariants as kind
use Rattle.us_format.specs.Lists.{nth, cell}
use Rattle.us_format.specs.Matrix.{Shape, Entry, IsMatrixOf}
use Rattle.us_format.specs.Declaration.{Part}
use Rattle.us_format.specs.Coordinates.{level_range}
use Rattle.us_format.specs.Kinds.{Level}
use Rattle.us_format.specs.Climb.{width}
use Rattle.us_format.specs.Reading.{limit}
use Rattle.us_format.specs.Rules.{IsLawful}
use Rattle.us_format.specs.Laws.{contents_of, position_of}
use Rattle.us_format_loops.specs.Laws.{levels_on, values_on, number_after, found_of}
use Rattle.us_known.specs.Table.{tree_at}
use Rattle.us_invert.specs.declared.steps.PlanStep.{PlanStep}
use Rattle.us_invert.specs.Plan.{step_at}
use Rattle.us_invert.specs.Recovery.{walked}
use Rattle.us_gen.specs.Nest.{Same}
use Rattle.us_gen.specs.Levels.{Running, stays}
use Rattle.us_gen_recover.specs.declared.places.Table.{Table}
use Rattle.us_gen_recover.specs.Recovery.{names_in, table}
use Rattle.us_gen_recover.specs.Values.{IsReady}
use Rattle.us_gen_walk.specs.declared.places.Column.{Column}
use Rattle.us_gen_walk.specs.declared.places.Column.TheVariants as column
use Rattle.us_gen_walk.specs.declared.places.Loop.{Loop}
use Rattle.us_gen_walk.specs.declared.places.Loop.TheVariants as over
use Rattle.us_gen_walk.specs.declared.places.Slot.{Slot}
use Rattle.us_gen_walk.specs.declared.places.Places.{Places}
use Rattle.us_gen_walk.specs.Walk.{coordinates, is_tight, walk, value_register, index_term, end}

-- ---- the buffers

-- cell q of a column is cell q * w + digit of the pack
pub record IsInPack (pack : List ℤ) (w digit : ℕ) (cells : List ℤ) : Type 0 where
  pub digit_is : digit < w
  pub long : length pack ≡ length cells * w
  pub small : length pack < 2 ^ 63
  pub each : (q : ℕ) → q < length cells → cell pack (q * w + digit) ≡ cell cells q

abbrev pub HasColumn : Env → Column → List ℤ → Type 0
HasColumn env (column.Own k) cells = env.sources k ≡ cells
HasColumn env (column.Packed k w digit) cells = IsInPack (env.sources k) w digit cells

-- the starts and the coordinates of nodes
pub record HasNodes (env : Env) (k : ℕ) (more nodes : Dim) (crd : Column) (starts cells : List ℤ) : Type 0 where
  pub starts_are : env.sources k ≡ starts
  pub cells_are : HasColumn env crd cells
  pub number : size_of env nodes ≡ length cells
  pub one_more : size_of env more ≡ size_of env nodes + 1

-- what a level of this kind and size has in buffers, which come first
abbrev pub HasLoop : Env → Loop → Kind → ℕ → List (List ℤ) → Type 0
HasLoop env (over.Full size low) kind.Full n bufs = size_of env size ≡ n
HasLoop env (over.Full size low) kind.Compressed n bufs = ⊥
HasLoop env (over.Full size low) kind.Listed n bufs = ⊥
HasLoop env (over.Full size low) kind.Slot n bufs = ⊥
HasLoop env (over.Nodes k more nodes crd low) kind.Full n bufs = ⊥
HasLoop env (over.Nodes k more nodes crd low) kind.Compressed n bufs = HasNodes env k more nodes crd (nth bufs 0) (nth bufs 1)
HasLoop env (over.Nodes k more nodes crd low) kind.Listed n bufs = HasNodes env k more nodes crd (nth bufs 0) (nth bufs 1)
HasLoop env (over.Nodes k more nodes crd low) kind.Slot n bufs = ⊥

abbrev pub HasSlot : Env → Column → Kind → List (List ℤ) → Type 0
HasSlot env crd kind.Full bufs = ⊥
HasSlot env crd kind.Compressed bufs = ⊥
HasSlot env crd kind.Listed bufs = ⊥
HasSlot env crd kind.Slot bufs = HasColumn env crd (nth bufs 0)

-- the levels with loops, and behind them the slot levels
abbrev pub HasSlots : Env → List Slot → List Level → List (List ℤ) → Type 0
HasSlots env [] [] bufs = Unit {0}
HasSlots env [] (l ∷ ls) bufs = ⊥
HasSlots env (x ∷ xs) [] bufs = ⊥
HasSlots env (x ∷ xs) (l ∷ ls) bufs = HasSlot env x.crd l.kind bufs × HasSlots env xs ls (drop (width l.kind) bufs)

abbrev pub HasLevels : Env → List Loop → List Slot → List Level → List (List ℤ) → Type 0
HasLevels env [] slots ls bufs = HasSlots env slots ls bufs
HasLevels env (x ∷ xs) slots [] bufs = ⊥
HasLevels env (x ∷ xs) slots (l ∷ ls) bufs = HasLoop env x l.kind l.size bufs × HasLevels env xs slots ls (drop (width l.kind) bufs)

-- the sources hold the tables, except empty ones, and the dims are the extents
abbrev pub HasTables : Env → List Table → List ℕ → List (List ℤ) → Type 0
HasTables env ts extents tables =
    (q : ℕ) → q < length ts → (nth tables q ≢ [] → env.sources (table ts q).source ≡ nth tables q) × (size_of env (table ts q).extent ≡ slice_index_or extents q 0)

-- the places are those of what a part holds for a matrix, whose numbers of positions are within the limit
pub record HasPlaces (env : Env) (w : Places) (s : Shape) (p : Part) (m : List Entry) : Type 0 where
  pub levels : HasLevels env w.loops.items w.slots.items (levels_on s p m) (contents_of s p m).cells
  pub values : HasColumn env w.values (values_on s p m)
  pub tables : HasTables env w.tables.items (contents_of s p m).extents (contents_of s p m).tables
  pub numbers : (k : ℕ) → number_after s p m k ≤ limit

-- ---- the recovery

-- walking the steps at an entry gives it its indices, and no step leaves its range
pub record RecoversAt (w : Places) (s : Shape) (p : Part) (m : List Entry) (ts : List Tree) (steps : List PlanStep) (row col n : ℕ) (x : Entry) : Type 0 where
  pub values : List ℤ
  pub walked_are : walked s p (found_of s p m x) ts steps [] ≡ Some values
  pub ready :
      (k : ℕ) → k < length steps
      → IsReady (coordinates w n) w.tables.items (found_of s p m x) values k (level_range s (contents_of s p m).extents p (tree_at ts k)).lo (step_at steps k)
  pub row_is : cell values row ≡ pos x.i
  pub col_is : cell values col ≡ pos x.j

-- at each entry the steps numbered row and col give its indices
pub record Recovers (w : Places) (s : Shape) (p : Part) (m : List Entry) (ts : List Tree) (steps : List PlanStep) (row col n : ℕ) : Type 0 where
  pub same_length : length steps ≡ length ts
  pub row_below : row < length steps
  pub col_below : col < length steps
  pub each : (x : Entry) → Contains m x → RecoversAt w s p m ts steps row col n x

-- ---- entries by position

-- how many entries have a position below q, and how many come before an entry
abbrev pub entries_below : Shape → Part → List Entry → ℕ → ℕ
entries_below s p m q = count_by (λ y. nat_lt (position_of s p m y) q) m

abbrev pub rank_of : Shape → Part → List Entry → Entry → ℕ
rank_of s p m x = entries_below s p m (position_of s p m x)

-- the ranks are the numbers below the number of entries, each once
pub record HaveRanks (s : Shape) (p : Part) (m : List Entry) : Type 0 where
  pub below : (x : Entry) → Contains m x → rank_of s p m x < length m
  pub apart : (x y : Entry) → Contains m x → Contains m y → rank_of s p m x ≡ rank_of s p m y → x ≡ y

abbrev pub EntriesHaveRanks : Type 0
EntriesHaveRanks = (s : Shape) (p : Part) (m : List Entry) → IsLawful p → IsMatrixOf s m → HaveRanks s p m

-- the registers hold an entry's value, and the terms of its indices have their values as long as the loops' registers stay
pub record Shows (env : Env) (w : Places) (steps : List PlanStep) (row col n : ℕ) (x : Entry) (regs : ℕ → ℤ) : Type 0 where
  pub value_is : regs (value_register w n) ≡ x.v
  pub row_is : (g : ℕ → ℤ) → ((r : ℕ) → r < end w steps n → g r ≡ regs r) → value env g (index_term w steps n row) ≡ pos x.i
  pub col_is : (g : ℕ → ℤ) → ((r : ℕ) → r < end w steps n → g r ≡ regs r) → value env g (index_term w steps n col) ≡ pos x.j

-- ---- steps

abbrev pub read_cost : Column → ℕ
read_cost (column.Own k) = 1
read_cost (column.Packed k w digit) = 2

-- the steps of the loops around N positions, without those of the leaves
abbrev pub loop_cost : Env → List Loop → ℕ → ℕ
loop_cost env [] N = 0
loop_cost env (over.Full size low ∷ ls) N = N + N * size_of env size + loop_cost env ls (N * size_of env size)
loop_cost env (over.Nodes k more nodes crd low ∷ ls) N = 7 * N + (1 + read_cost crd) * size_of env nodes + loop_cost env ls (size_of env nodes)

-- at each last position the read of the value, and the test where there is one; at each entry the slot levels, the recovery and the block
abbrev pub leaf_cost : Places → ℕ
leaf_cost w = cond (is_tight w) 2 3

abbrev pub entry_cost : Places → List PlanStep → ℕ → ℕ
entry_cost w steps inner = 2 * length w.slots.items + names_in steps + inner

-- where the block takes at most `inner` steps
abbrev pub walk_cost : Env → Places → List PlanStep → ℕ → ℕ → ℕ → ℕ
walk_cost env w steps inner positions entries = loop_cost env w.loops.items 1 + leaf_cost w * positions + entry_cost w steps inner * entries

-- ---- the law

-- the block at an entry leads from the buffers and running registers of its rank to those of the next, in at most so many steps
abbrev pub Lists : Env → (ℕ → Bool) → Places → List PlanStep → ℕ → ℕ → ℕ → Shape → Part → List Entry → Code → (ℕ → ℕ → List ℤ) → (ℕ → ℕ → ℤ) → ℕ → Type 0
Lists env runs w steps row col n s p m inner bufs held cost =
    (x : Entry) (u : State) → Contains m x → Shows env w steps row col n x u.regs → Running runs bufs held (rank_of s p m x) u
    → Does env inner u (λ v. Running runs bufs held (rank_of s p m x + 1) v × (v.steps ≤ u.steps + cost) × Same (stays runs) (end w steps n) u.regs v.regs)

-- on the buffers of a lawful part the loops do their block for each entry in the order of positions, and nothing is stuck
abbrev pub WalkLists : Type 0
WalkLists =
    (env : Env) (runs : ℕ → Bool) (w : Places) (s : Shape) (p : Part) (m : List Entry) (ts : List Tree) (steps : List PlanStep) (row col n : ℕ) (inner : Code)
    (bufs : ℕ → ℕ → List ℤ) (held : ℕ → ℕ → ℤ) (cost : ℕ) (u : State)
    → IsLawful p → IsMatrixOf s m → HasPlaces env w s p m → Recovers w s p m ts steps row col n → ((r : ℕ) → n ≤ r → runs r ≡ false)
    → Lists env runs w steps row col n s p m inner bufs held cost → Running runs bufs held 0 u
    → Does env (walk w steps n inner) u
    (λ v. Running runs bufs held (length m) v × (v.steps ≤ u.steps + walk_cost env w steps cost (length (values_on s p m)) (length m)) × Same (stays runs) n u.regs v.regs)
