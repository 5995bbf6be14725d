-- Loops that rank the rows or the columns by falling number of entries.
use Rattle.std.specs.Prelude.{◌≡◌, ◌≢◌, ℕ, zero, suc, ◌+◌, ◌*◌, ◌^◌, ◌<◌, ◌≤◌, true, false, List, [], ◌∷◌, map, length, nat_eq, slice_index_or, ℤ, pos, Some, if◌then◌else◌}
use Rattle.std.specs.List.{range_with_len}
use Rattle.us_code.specs.declared.program.Dim.{Dim}
use Rattle.us_code.specs.declared.program.Dim.TheVariants as dim
use Rattle.us_code.specs.declared.program.Buf.TheVariants as buf
use Rattle.us_code.specs.declared.program.CellKind.TheVariants as kind
use Rattle.us_code.specs.declared.pieces.Columns.{Columns}
use Rattle.us_code.specs.Plain.{Number, Reg, Sub, Code, End, Load, Set, For, When, Order, ◌+++◌}
use Rattle.us_code.specs.Run.{Env, State, exec, size_of}
use Rattle.us_code.specs.Sort.{ordered}
use Rattle.us_code.specs.Typing.{Context, BufKind, Typed, sees_dim}
use Rattle.us_gen.specs.Rooms.{FreshFrom}
use Rattle.us_gen_query.specs.Filling.{words, Visible}
use Rattle.us_query_loops.specs.Ranks.{downwards}
use Rattle.us_query_loops.specs.Runs.{filled_at}
use Rattle.us_gen_query.specs.Counting.{IsZeros}

-- what is done with each entry's index, which buffer i holds, in register n + 2: a number below the size
abbrev pub at_index : Columns → ℕ → Dim → ℕ → Code → Code
at_index cs i size n inner = For n (dim.Name cs.count) (Load (n + 1) (buf.New i) (Reg n) (When (Reg (n + 1)) size (n + 2) inner false End End)) End

-- one less in buffer b at the index
abbrev pub one_less : ℕ → ℕ → Code
one_less b n = Load (n + 3) (buf.New b) (Reg (n + 2)) (Set (buf.New b) (Reg (n + 2)) (Sub (Reg (n + 3)) (Number 1)) End)

-- the entry's cell of buffer z gets what stands in buffer q at the index
abbrev pub looked_up : ℕ → ℕ → ℕ → Code
looked_up q z n = Load (n + 3) (buf.New q) (Reg (n + 2)) (Set (buf.New z) (Reg n) (Reg (n + 3)) End)

-- buffer q gets the place of each number in buffer o
abbrev pub invert : Dim → ℕ → ℕ → ℕ → Code
invert size o q n = For n size (Load (n + 1) (buf.New o) (Reg n) (Set (buf.New q) (Reg (n + 1)) (Reg n) End)) End

-- counts the entries of each index downwards into buffer b, orders the indices by the counts into buffer o, so that more entries come first and then the lower
-- index, and gives buffer q the rank of each index and buffer z that of each entry's
abbrev pub reorder : Columns → ℕ → Dim → ℕ → ℕ → ℕ → ℕ → ℕ → Code
reorder cs i size b o q z n = at_index cs i size n (one_less b n) +++ (Order (buf.New o) (buf.New b ∷ []) End +++ (invert size o q (n + 4) +++ at_index cs i size (n + 6) (looked_up q z (n + 6))))

-- ---- typing

-- words of the indices, and places of them
abbrev pub counts : Dim → BufKind
counts size = record { len = size; cell = kind.Word }

abbrev pub indices : Dim → BufKind
indices size = record { len = size; cell = kind.Below size }

abbrev pub ReorderTyped : Type 0
ReorderTyped =
    (g : Context) (cs : Columns) (i : ℕ) (size : Dim) (b o q z n : ℕ) → FreshFrom g n → Visible g cs → sees_dim g size ≡ true → g.bufs i ≡ Some (words cs) → g.bufs b ≡ Some (counts size)
    → g.bufs o ≡ Some (indices size) → g.bufs q ≡ Some (indices size) → g.bufs z ≡ Some (words cs) → b ≢ o → Typed g (reorder cs i size b o q z n)

-- ---- runs

-- how many of the first x entries have the index a
abbrev pub passed : (ℕ → ℕ) → ℕ → ℕ → ℕ
passed index zero a = 0
passed index (suc x) a = if nat_eq (index x) a then suc (passed index x a) else passed index x a

-- the counts of all m entries, and the order of the indices by them
abbrev pub counted_down : (ℕ → ℕ) → ℕ → ℕ → List ℤ
counted_down index m size = map (λ a. downwards (passed index m a)) (range_with_len 0 size)

abbrev pub by_count : (ℕ → ℕ) → ℕ → ℕ → List ℕ
by_count index m size = ordered (counted_down index m size ∷ []) size

-- a column holds an index below the size for each of m entries
pub record AreIndices (xs : List ℤ) (m size : ℕ) (index : ℕ → ℕ) : Type 0 where
  pub long : length xs ≡ m
  pub cells : (x : ℕ) → x < m → slice_index_or xs x (pos 0) ≡ pos (index x)
  pub below : (x : ℕ) → x < m → index x < size

-- what `reorder` leaves: in o the order, in z the rank of each entry's index in it
pub record Reordered (n m size b o q z : ℕ) (index : ℕ → ℕ) (order : List ℕ) (s u : State) : Type 0 where
  pub table : u.bufs o ≡ map pos order
  pub long : length (u.bufs z) ≡ m
  pub ranks : (y : ℕ) → y < m → slice_index_or (u.bufs z) y (pos 0) ≡ pos (filled_at order (λ x. x) size (index y))
  pub others : (c : ℕ) → c ≢ b → c ≢ o → c ≢ q → c ≢ z → u.bufs c ≡ s.bufs c
  pub regs : (r : ℕ) → r < n → u.regs r ≡ s.regs r
  pub steps : u.steps ≤ s.steps + m * 10 + size * 4 + 4
  pub stuck : u.stuck ≡ s.stuck

abbrev pub Reorders : Type 0
Reorders =
    (env : Env) (cs : Columns) (i : ℕ) (size : Dim) (b o q z n m : ℕ) (index : ℕ → ℕ) (s : State) → env.dims cs.count ≡ m → m < 2 ^ 62 → AreIndices (s.bufs i) m (size_of env size) index
    → IsZeros (s.bufs b) (size_of env size) → length (s.bufs o) ≡ size_of env size → IsZeros (s.bufs q) (size_of env size) → length (s.bufs z) ≡ m
    → i ≢ b → i ≢ o → i ≢ q → i ≢ z → b ≢ o → b ≢ q → b ≢ z → o ≢ q → o ≢ z → q ≢ z
    → Reordered n m (size_of env size) b o q z index (by_count index m (size_of env size)) s (exec env (reorder cs i size b o q z n) s)
