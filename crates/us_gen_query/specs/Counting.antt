-- Loops that count over the entries in the order of a value.
use Rattle.std.specs.Prelude.{◌≡◌, ◌≢◌, ℕ, suc, ◌+◌, ◌-◌, ◌*◌, ◌^◌, ◌<◌, ◌≤◌, true, false, cond, eqb, List, [], ◌∷◌, map, length, slice_index_or, ℤ, pos, Some}
use Rattle.us_code.specs.declared.program.Dim.TheVariants as dim
use Rattle.us_code.specs.declared.program.Buf.{Buf}
use Rattle.us_code.specs.declared.program.Buf.TheVariants as buf
use Rattle.us_code.specs.declared.program.CellKind.TheVariants as kind
use Rattle.us_code.specs.declared.pieces.Columns.{Columns}
use Rattle.us_code.specs.Plain.{TermTree, Number, Reg, Add, Sub, Code, End, Load, Var, Put, Set, For, If, When, Order}
use Rattle.us_code.specs.Run.{Env, State, exec, cells, all_long}
use Rattle.us_code.specs.Sort.{ordered}
use Rattle.us_code.specs.Typing.{Context, BufKind, Typed}
use Rattle.us_gen.specs.Rooms.{FreshFrom}
use Rattle.us_gen_query.specs.Filling.{words, Visible}
use Rattle.us_query_loops.specs.Sorted.{place_at}
use Rattle.us_query_loops.specs.Runs.{start_at, most_at, length_at, filled_at}

-- a number that is the value of no expression
abbrev pub no_value : ℕ
no_value = 9223372036854775807

-- the columns of an order by buffer b, and then by row and column; each is named once
abbrev pub row_major : Columns → ℕ → List Buf
row_major cs b = cond (eqb b cs.i) (buf.New b ∷ buf.New cs.j ∷ []) (cond (eqb b cs.j) (buf.New b ∷ buf.New cs.i ∷ []) (buf.New b ∷ buf.New cs.i ∷ buf.New cs.j ∷ []))

-- the entry of the rank in register n + 3: its place goes to n + 4, its value in buffer k to n + 5. Where that isn't the value of the last entry, in register n, a
-- run begins, whose rank goes to n + 1. Register n + 2 is left to the longest run
abbrev pub run_step : ℕ → ℕ → ℕ → Code → Code
run_step p k n inner =
    Load (n + 4) (buf.New p) (Reg (n + 3)) (Load (n + 5) (buf.New k) (Reg (n + 4)) (If (Reg (n + 5)) true (Reg n) End true (Put n (Reg (n + 5)) (Put (n + 1) (Reg (n + 3)) End)) inner))

-- how many entries of its run come before the entry, and how many there are with it
abbrev pub run_place : ℕ → TermTree
run_place n = Sub (Reg (n + 3)) (Reg (n + 1))

abbrev pub run_length : ℕ → TermTree
run_length n = Add (run_place n) (Number 1)

-- keeps the longest run
abbrev pub longest : ℕ → Code
longest n = If (Reg (n + 2)) false (run_length n) (Put (n + 2) (run_length n) End) false End End

abbrev pub enumerate_turn : ℕ → ℕ → ℕ → ℕ → Code
enumerate_turn p k z n = run_step p k n (Set (buf.New z) (Reg (n + 4)) (run_place n) (longest n))

-- orders the entries by their values in buffer k, and gives buffer z for each how many come before it with its value, and buffer w the longest run
abbrev pub enumerate : Columns → ℕ → ℕ → ℕ → ℕ → ℕ → Code
enumerate cs k p z w n =
    Order (buf.New p) (row_major cs k) (Var n (Number no_value) (Var (n + 1) (Number 0) (Var (n + 2) (Number 0)
    (For (n + 3) (dim.Name cs.count) (enumerate_turn p k z n) (Set (buf.New w) (Number 0) (Reg (n + 2)) End)))))

-- the start of its run for each entry, and at the start how long the run is so far
abbrev pub sum_turn : Columns → ℕ → ℕ → ℕ → ℕ → ℕ → Code
sum_turn cs p k z t n =
    run_step p k n (Set (buf.New z) (Reg (n + 4)) (Reg (n + 1)) (When (Reg (n + 1)) (dim.Name cs.count) (n + 6) (Set (buf.New t) (Reg (n + 6)) (run_length n) End) false End End))

-- buffer z gets what stands in buffer t at its numbers
abbrev pub look_up : Columns → ℕ → ℕ → ℕ → Code
look_up cs z t n =
    For n (dim.Name cs.count) (Load (n + 1) (buf.New z) (Reg n) (When (Reg (n + 1)) (dim.Name cs.count) (n + 2) (Load (n + 3) (buf.New t) (Reg (n + 2)) (Set (buf.New z) (Reg n) (Reg (n + 3)) End)) false End End)) End

-- orders the entries by their values in buffer k, and gives buffer z for each how many have its value
abbrev pub sum : Columns → ℕ → ℕ → ℕ → ℕ → ℕ → Code
sum cs k p z t n =
    Order (buf.New p) (buf.New k ∷ []) (Var n (Number no_value) (Var (n + 1) (Number 0)
    (For (n + 3) (dim.Name cs.count) (sum_turn cs p k z t n) (look_up cs z t (n + 7)))))

-- ---- typing

-- places of the entries
abbrev pub places : Columns → BufKind
places cs = record { len = dim.Name cs.count; cell = kind.Below (dim.Name cs.count) }

abbrev pub one_word : BufKind
one_word = record { len = dim.Number 1; cell = kind.Word }

abbrev pub EnumerateTyped : Type 0
EnumerateTyped =
    (g : Context) (cs : Columns) (k p z w n : ℕ) → FreshFrom g n → Visible g cs → g.bufs k ≡ Some (words cs) → g.bufs p ≡ Some (places cs) → g.bufs z ≡ Some (words cs)
    → g.bufs w ≡ Some one_word → k ≢ p → cs.i ≢ p → cs.j ≢ p → Typed g (enumerate cs k p z w n)

abbrev pub SumTyped : Type 0
SumTyped =
    (g : Context) (cs : Columns) (k p z t n : ℕ) → FreshFrom g n → Visible g cs → g.bufs k ≡ Some (words cs) → g.bufs p ≡ Some (places cs) → g.bufs z ≡ Some (words cs)
    → g.bufs t ≡ Some (words cs) → k ≢ p → Typed g (sum cs k p z t n)

-- ---- runs

-- the order of the first m places by these buffers, and the value in buffer k of the entry of a rank
abbrev pub order_by : Env → State → List Buf → ℕ → List ℕ
order_by env s keys m = ordered (map (cells env s) keys) m

abbrev pub value_by : State → ℕ → List ℕ → ℕ → ℤ
value_by s k order x = slice_index_or (s.bufs k) (place_at order x) (pos 0)

-- a buffer of m zeros
pub record IsZeros (xs : List ℤ) (m : ℕ) : Type 0 where
  pub long : length xs ≡ m
  pub cells : (y : ℕ) → y < m → slice_index_or xs y (pos 0) ≡ pos 0

-- what `enumerate` leaves: in z how many entries of its run come before each, in w the longest run
pub record Enumerated (n m k p z w : ℕ) (order : List ℕ) (value : ℕ → ℤ) (keys : ℕ) (s u : State) : Type 0 where
  pub long : length (u.bufs z) ≡ m
  pub ranks : (y : ℕ) → y < m → slice_index_or (u.bufs z) y (pos 0) ≡ pos (filled_at order (λ x. x - start_at (pos no_value) value (suc x)) m y)
  pub wide : length (u.bufs w) ≡ 1
  pub extent : slice_index_or (u.bufs w) 0 (pos 0) ≡ pos (most_at (pos no_value) value m)
  pub others : (b : ℕ) → b ≢ p → b ≢ z → b ≢ w → u.bufs b ≡ s.bufs b
  pub regs : (r : ℕ) → r < n → u.regs r ≡ s.regs r
  pub steps : u.steps ≤ s.steps + m * keys + m * 9 + 6
  pub stuck : u.stuck ≡ s.stuck

abbrev pub Enumerates : Type 0
Enumerates =
    (env : Env) (cs : Columns) (k p z w n m : ℕ) (s : State) → env.dims cs.count ≡ m → m < 2 ^ 62 → length (s.bufs p) ≡ m → all_long m (map (cells env s) (row_major cs k)) ≡ true
    → length (s.bufs k) ≡ m → IsZeros (s.bufs z) m → length (s.bufs w) ≡ 1 → k ≢ p → k ≢ z → p ≢ z → w ≢ z → w ≢ p
    → Enumerated n m k p z w (order_by env s (row_major cs k) m) (value_by s k (order_by env s (row_major cs k) m)) (length (row_major cs k)) s (exec env (enumerate cs k p z w n) s)

-- what `sum` leaves: in z how long each entry's run is
pub record Summed (n m k p z t : ℕ) (order : List ℕ) (value : ℕ → ℤ) (s u : State) : Type 0 where
  pub long : length (u.bufs z) ≡ m
  pub lengths : (y : ℕ) → y < m → slice_index_or (u.bufs z) y (pos 0) ≡ pos (length_at (pos no_value) value m (filled_at order (λ x. start_at (pos no_value) value (suc x)) m y))
  pub others : (b : ℕ) → b ≢ p → b ≢ z → b ≢ t → u.bufs b ≡ s.bufs b
  pub regs : (r : ℕ) → r < n → u.regs r ≡ s.regs r
  pub steps : u.steps ≤ s.steps + m * 15 + 5
  pub stuck : u.stuck ≡ s.stuck

abbrev pub Sums : Type 0
Sums =
    (env : Env) (cs : Columns) (k p z t n m : ℕ) (s : State) → env.dims cs.count ≡ m → m < 2 ^ 62 → length (s.bufs p) ≡ m → length (s.bufs k) ≡ m
    → IsZeros (s.bufs z) m → IsZeros (s.bufs t) m → k ≢ p → k ≢ z → k ≢ t → p ≢ z → p ≢ t → t ≢ z
    → Summed n m k p z t (order_by env s (buf.New k ∷ []) m) (value_by s k (order_by env s (buf.New k ∷ []) m)) s (exec env (sum cs k p z t n) s)
