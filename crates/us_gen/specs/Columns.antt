-- Columns that a running counter fills.
use Rattle.std.specs.Prelude.{◌≡◌, ◌≢◌, ℕ, ◌+◌, ◌^◌, ◌<◌, Bool, true, false, not, ◌&&◌, ◌||◌, nat_eq, List, [], ◌∷◌, ◌++◌, length, take, slice_set, ℤ, pos, Some}
use Rattle.us_code.specs.declared.program.Dim.{Dim}
use Rattle.us_code.specs.declared.program.Buf.TheVariants as buf
use Rattle.us_code.specs.declared.program.CellKind.TheVariants as kind
use Rattle.us_code.specs.Plain.{TermTree, Number, Reg, Add, Code, End, Put, Set, When}
use Rattle.us_code.specs.Run.{Env, State, put, exec, size_of, value}
use Rattle.us_code.specs.Typing.{Context, sees_dim, fine, with_reg, Typed}
use Rattle.us_gen.specs.Rooms.{FreshFrom}

-- a new buffer, and the value that its next cell gets
pub record Column : Type 0 where
  pub buf : ℕ
  pub value : TermTree

-- the row, the column and the value of an entry, each in its own
abbrev pub entry : ℕ → ℕ → ℕ → TermTree → TermTree → TermTree → List Column
entry i j v row col value = record { buf = i; value = row } ∷ record { buf = j; value = col } ∷ record { buf = v; value = value } ∷ []

-- sets the cell in register n of each column
abbrev pub sets : ℕ → List Column → Code → Code
sets n [] rest = rest
sets n (c ∷ cs) rest = Set (buf.New c.buf) (Reg n) c.value (sets n cs rest)

-- sets each column's cell at the counter in register k, and raises the counter
abbrev pub append : ℕ → Dim → ℕ → List Column → Code
append k long n cs = When (Reg k) long n (sets n cs (Put k (Add (Reg k) (Number 1)) End)) false End End

-- buffer b is one of the columns, and no column is named twice
abbrev pub fills : ℕ → List Column → Bool
fills b [] = false
fills b (c ∷ cs) = nat_eq c.buf b || fills b cs

abbrev pub are_apart : List Column → Bool
are_apart [] = true
are_apart (c ∷ cs) = not (fills c.buf cs) && are_apart cs

-- each column has a cell m, and its value is f's at its buffer
abbrev pub Ready : Env → (ℕ → ℤ) → (ℕ → List ℤ) → ℕ → (ℕ → ℤ) → List Column → Type 0
Ready env regs bufs m f [] = Unit {0}
Ready env regs bufs m f (c ∷ cs) = (value env regs c.value ≡ f c.buf) × (m < length (bufs c.buf)) × Ready env regs bufs m f cs

-- from s to u each column got its value in cell m, and the counter is one more
pub record Appended (k n m : ℕ) (f : ℕ → ℤ) (cs : List Column) (s u : State) : Type 0 where
  pub counter : u.regs k ≡ pos (m + 1)
  pub filled : (b : ℕ) → fills b cs ≡ true → u.bufs b ≡ slice_set (s.bufs b) m (f b)
  pub others : (b : ℕ) → fills b cs ≡ false → u.bufs b ≡ s.bufs b
  pub regs : (r : ℕ) → k ≢ r → n ≢ r → u.regs r ≡ s.regs r
  pub steps : u.steps ≡ s.steps + length cs + 2
  pub stuck : u.stuck ≡ s.stuck

abbrev pub Appends : Type 0
Appends =
    (env : Env) (k n m : ℕ) (long : Dim) (f : ℕ → ℤ) (cs : List Column) (s : State) → n ≢ k → s.regs k ≡ pos m → m < size_of env long → m + 1 < 2 ^ 63
    → are_apart cs ≡ true → Ready env (put s.regs n (pos m)) s.bufs m f cs → Appended k n m f cs s (exec env (append k long n cs) s)

-- a column of m cells whose first are these
pub record Holds (xs cells : List ℤ) (m : ℕ) : Type 0 where
  pub long : length cells ≡ m
  pub front : take (length xs) cells ≡ xs

-- one more cell at the end of what a column holds
abbrev pub HoldsMore : Type 0
HoldsMore = (xs cells : List ℤ) (m k : ℕ) (v : ℤ) → length xs ≡ k → k < m → Holds xs cells m → Holds (xs ++ v ∷ []) (slice_set cells k v) m

-- each column is a buffer of words of the length of the counter's bound, and its value is fine
abbrev pub ColumnsTyped : Context → Context → Dim → List Column → Type 0
ColumnsTyped g h long [] = Unit {0}
ColumnsTyped g h long (c ∷ cs) = (g.bufs c.buf ≡ Some record { len = long; cell = kind.Word }) × (fine h c.value ≡ true) × ColumnsTyped g h long cs

abbrev pub AppendsTyped : Type 0
AppendsTyped =
    (g : Context) (k n : ℕ) (long : Dim) (cs : List Column) → FreshFrom g n → sees_dim g long ≡ true → g.regs k ≡ Some record { is_var = true; kind = kind.Word }
    → ColumnsTyped g (with_reg g n false (kind.Below long)) long cs → Typed g (append k long n cs)
