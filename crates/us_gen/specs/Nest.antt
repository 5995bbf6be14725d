-- Loops that visit the positions of levels, one level in the other.
use Rattle.std.specs.Prelude.{◌≡◌, ℕ, ◌+◌, ◌*◌, ◌^◌, ◌<◌, ◌≤◌, Bool, false, cond, nat_eq, List, length, slice_index_or, ℤ, pos}
use Rattle.us_code.specs.declared.program.Dim.{Dim}
use Rattle.us_code.specs.declared.program.Dim.TheVariants as dim
use Rattle.us_code.specs.declared.program.Buf.TheVariants as buf
use Rattle.us_code.specs.Plain.{TermTree, Number, Reg, Size, Flat, Next, Up, Add, Sub, Mul, Div, Rem, Code, End, Load, For, Span, When}
use Rattle.us_code.specs.Run.{Env, State, value}
use Rattle.us_code_laws.specs.Does.{Does}

-- the term is the number 0
abbrev pub is_origin : TermTree → Bool
is_origin (Number n) = nat_eq n 0
is_origin (Reg r) = false
is_origin (Size d) = false
is_origin (Flat d p c) = false
is_origin (Next d x) = false
is_origin (Up d x) = false
is_origin (Add a b) = false
is_origin (Sub a b) = false
is_origin (Mul a b) = false
is_origin (Div a k) = false
is_origin (Rem a k) = false

-- the position of coordinate c, a register, under position q, at a level of this size
abbrev pub under : TermTree → TermTree → ℕ → TermTree
under q size c = cond (is_origin q) (Reg c) (Add (Mul q size) (Reg c))

-- a full level: the coordinate is in register n
abbrev pub full_level : Dim → ℕ → Code → Code
full_level size n inner = For n size inner End

-- a level of nodes under position q: pos is source k, `more` is one more than the nodes, the position is in register n + 6
abbrev pub node_level : TermTree → ℕ → Dim → Dim → ℕ → Code → Code
node_level q k more nodes n inner =
    When q (dim.Len k) n (
    Load (n + 1) (buf.Source k) (Reg n) (
    When (Add q (Number 1)) (dim.Len k) (n + 2) (
    Load (n + 3) (buf.Source k) (Reg (n + 2)) (
    When (Reg (n + 1)) more (n + 4) (
    When (Reg (n + 3)) more (n + 5) (
    Span (n + 6) (Reg (n + 4)) (Reg (n + 5)) nodes inner End)
    false End End)
    false End End))
    false End End))
    false End End

-- the coordinate in source k at a place that is in its range by its kind, in register n
abbrev pub crd_level : TermTree → ℕ → ℕ → Code → Code
crd_level at k n inner = Load n (buf.Source k) at inner

-- the coordinate in source k at a place, in register n + 1
abbrev pub cell_level : TermTree → ℕ → ℕ → Code → Code
cell_level at k n inner = When at (dim.Len k) n (Load (n + 1) (buf.Source k) (Reg n) inner) false End End

-- the kept registers below n are the same
abbrev pub Same : (ℕ → Type 0) → ℕ → (ℕ → ℤ) → (ℕ → ℤ) → Type 0
Same kept n f g = (r : ℕ) → kept r → r < n → g r ≡ f r

-- at position q, where the registers have K, the block leads from J q to J (q + 1), and its steps from C q to C (q + 1)
pub record Visits (env : Env) (kept : ℕ → Type 0) (c : Code) (n N : ℕ) (K : ℕ → (ℕ → ℤ) → Type 0) (J : ℕ → State → Type 0) (C : ℕ → ℕ) : Type 0 where
  pub does : (base q : ℕ) (s : State) → q < N → K q s.regs → J q s → s.steps ≤ base + C q → Does env c s (λ u. J (q + 1) u × (u.steps ≤ base + C (q + 1)) × Same kept n s.regs u.regs)

-- facts that speak of registers below n alone, K of kept ones
pub record Below (kept : ℕ → Type 0) (n : ℕ) (K : ℕ → (ℕ → ℤ) → Type 0) (J : ℕ → State → Type 0) : Type 0 where
  pub regs : (q : ℕ) (f g : ℕ → ℤ) → Same kept n f g → K q f → K q g
  pub state : (q : ℕ) (s u : State) → u.bufs ≡ s.bufs → ((r : ℕ) → r < n → u.regs r ≡ s.regs r) → J q s → J q u

-- the cells of pos: where the children of each of R positions start, among N
pub record Starts (cells : List ℤ) (R N : ℕ) (first : ℕ → ℕ) : Type 0 where
  pub long : length cells ≡ R + 1
  pub small : R + 1 < 2 ^ 63
  pub each : (p : ℕ) → p ≤ R → slice_index_or cells p (pos 0) ≡ pos (first p)
  pub rises : (p r : ℕ) → p ≤ r → r ≤ R → first p ≤ first r
  pub last : first R ≤ N

-- what the registers hold inside a full level
pub record InFull (K : ℕ → (ℕ → ℤ) → Type 0) (N size n q : ℕ) (f : ℕ → ℤ) : Type 0 where
  pub parent : ℕ
  pub exists : parent < N
  pub coordinate : ℕ
  pub in_size : coordinate < size
  pub place : q ≡ parent * size + coordinate
  pub above : K parent f
  pub held : f n ≡ pos coordinate

-- inside a level of nodes
pub record InNodes (K : ℕ → (ℕ → ℤ) → Type 0) (R : ℕ) (first : ℕ → ℕ) (n q : ℕ) (f : ℕ → ℤ) : Type 0 where
  pub parent : ℕ
  pub exists : parent < R
  pub from : first parent ≤ q
  pub to : q < first (parent + 1)
  pub above : K parent f
  pub held : f (n + 6) ≡ pos q

-- behind the read of a coordinate into register r
pub record InCell (K : ℕ → (ℕ → ℤ) → Type 0) (coordinate : ℕ → ℤ) (r q : ℕ) (f : ℕ → ℤ) : Type 0 where
  pub above : K q f
  pub held : f r ≡ coordinate q

-- the term's value at each position below N
abbrev pub At : Env → TermTree → ℕ → (ℕ → (ℕ → ℤ) → Type 0) → (ℕ → ℕ) → Type 0
At env e N K place = (q : ℕ) (f : ℕ → ℤ) → q < N → K q f → value env f e ≡ pos (place q)
