-- Loops that select the entries of a part: those whose variables pass its tests.
use Rattle.std.specs.Prelude.{◌≡◌, ◌≢◌, ℕ, zero, suc, ◌+◌, ◌*◌, ◌^◌, ◌<◌, ◌≤◌, Bool, true, false, cond, not, ◌&&◌, List, [], ◌∷◌, ◌++◌, length, slice_index_or, ℤ, pos, Some, if◌then◌else◌}
use lib.Signed.{lt_z}
use Rattle.us_code.specs.declared.program.Dim.TheVariants as dim
use Rattle.us_code.specs.declared.program.Buf.TheVariants as buf
use Rattle.us_code.specs.declared.pieces.Columns.{Columns}
use Rattle.us_code.specs.Plain.{Number, Reg, Add, Code, End, Load, Var, Put, For, If}
use Rattle.us_code.specs.Run.{Env, State, exec}
use Rattle.us_code.specs.Typing.{Context, is_some, Typed}
use Rattle.us_gen.specs.Rooms.{FreshFrom}
use Rattle.us_gen.specs.Columns.{append, entry}
use Rattle.us_gen_query.specs.declared.selecting.Test.{Test}
use Rattle.us_gen_query.specs.Filling.{words}

-- a block where the number in register r passes a test: it is less than the bound, or it isn't
abbrev pub branch : Test → ℕ → Code → Code
branch t r inner = cond t.less (If (Reg r) false (Number t.bound) inner false End End) (If (Reg r) false (Number t.bound) End true inner End)

-- a block where the entry at the place in register x passes all tests, whose numbers go to registers from n on
abbrev pub guard : List Test → ℕ → ℕ → Code → Code
guard [] x n inner = inner
guard (t ∷ ts) x n inner = Load n (buf.New t.buf) (Reg x) (branch t n (guard ts x (n + 1) inner))

-- counts the entries that pass into register n
abbrev pub count_chosen : Columns → List Test → ℕ → Code
count_chosen cs ts n = Var n (Number 0) (For (n + 1) (dim.Name cs.count) (guard ts (n + 1) (n + 2) (Put n (Add (Reg n) (Number 1)) End)) End)

-- the row, the column and the value of the entry at the place in register x go behind those that the columns `to` have, as many as register k says
abbrev pub copied : Columns → Columns → ℕ → ℕ → ℕ → Code
copied cs to k x r =
    Load r (buf.New cs.i) (Reg x) (Load (r + 1) (buf.New cs.j) (Reg x) (Load (r + 2) (buf.New cs.v) (Reg x) (append k (dim.Name to.count) (r + 3) (entry to.i to.j to.v (Reg r) (Reg (r + 1)) (Reg (r + 2))))))

-- puts the entries that pass into the columns `to`, in their order
abbrev pub copy_chosen : Columns → List Test → Columns → ℕ → Code
copy_chosen cs ts to n = Var n (Number 0) (For (n + 1) (dim.Name cs.count) (guard ts (n + 1) (n + 2) (copied cs to n (n + 1) (n + 2 + length ts))) End)

-- ---- typing

-- each test's buffer is a column of words of the entries
abbrev pub AreTests : Context → Columns → List Test → Type 0
AreTests g cs [] = Unit {0}
AreTests g cs (t ∷ ts) = (g.bufs t.buf ≡ Some (words cs)) × AreTests g cs ts

abbrev pub CountChosenTyped : Type 0
CountChosenTyped = (g : Context) (cs : Columns) (ts : List Test) (n : ℕ) → FreshFrom g n → is_some (g.dims cs.count) ≡ true → AreTests g cs ts → Typed g (count_chosen cs ts n)

abbrev pub CopyChosenTyped : Type 0
CopyChosenTyped =
    (g : Context) (cs : Columns) (ts : List Test) (to : Columns) (n : ℕ) → FreshFrom g n → is_some (g.dims cs.count) ≡ true → is_some (g.dims to.count) ≡ true → AreTests g cs ts
    → g.bufs cs.i ≡ Some (words cs) → g.bufs cs.j ≡ Some (words cs) → g.bufs cs.v ≡ Some (words cs)
    → g.bufs to.i ≡ Some (words to) → g.bufs to.j ≡ Some (words to) → g.bufs to.v ≡ Some (words to) → Typed g (copy_chosen cs ts to n)

-- ---- runs

-- whether the number z passes a test, and whether the entry x passes all
abbrev pub passes : Test → ℤ → Bool
passes t z = cond t.less (lt_z z (pos t.bound)) (not (lt_z z (pos t.bound)))

abbrev pub passes_all : List Test → (ℕ → List ℤ) → ℕ → Bool
passes_all [] bufs x = true
passes_all (t ∷ ts) bufs x = passes t (slice_index_or (bufs t.buf) x (pos 0)) && passes_all ts bufs x

-- the buffers of the tests have m cells, and none of them is b
abbrev pub AreLong : List Test → (ℕ → List ℤ) → ℕ → Type 0
AreLong [] bufs m = Unit {0}
AreLong (t ∷ ts) bufs m = (length (bufs t.buf) ≡ m) × AreLong ts bufs m

abbrev pub Lacks : List Test → ℕ → Type 0
Lacks [] b = Unit {0}
Lacks (t ∷ ts) b = (t.buf ≢ b) × Lacks ts b

-- how many of the first x numbers are chosen, and what f gives for them, in their order
abbrev pub chosen : (ℕ → Bool) → ℕ → ℕ
chosen p zero = 0
chosen p (suc x) = if p x then suc (chosen p x) else chosen p x

abbrev pub kept : (ℕ → Bool) → (ℕ → ℤ) → ℕ → List ℤ
kept p f zero = []
kept p f (suc x) = if p x then kept p f x ++ f x ∷ [] else kept p f x

-- the count of the entries that pass stands in register n
pub record Counted (n m tests : ℕ) (p : ℕ → Bool) (s u : State) : Type 0 where
  pub count : u.regs n ≡ pos (chosen p m)
  pub regs : (r : ℕ) → r < n → u.regs r ≡ s.regs r
  pub bufs : u.bufs ≡ s.bufs
  pub steps : u.steps ≤ s.steps + m * (2 * tests + 2) + 2
  pub stuck : u.stuck ≡ s.stuck

abbrev pub CountsChosen : Type 0
CountsChosen =
    (env : Env) (cs : Columns) (ts : List Test) (n m : ℕ) (s : State) → env.dims cs.count ≡ m → m < 2 ^ 62 → AreLong ts s.bufs m
    → Counted n m (length ts) (passes_all ts s.bufs) s (exec env (count_chosen cs ts n) s)

-- the columns hold the entries that pass
pub record Copied (n m tests : ℕ) (p : ℕ → Bool) (cs to : Columns) (s u : State) : Type 0 where
  pub rows : u.bufs to.i ≡ kept p (λ x. slice_index_or (s.bufs cs.i) x (pos 0)) m
  pub cols : u.bufs to.j ≡ kept p (λ x. slice_index_or (s.bufs cs.j) x (pos 0)) m
  pub values : u.bufs to.v ≡ kept p (λ x. slice_index_or (s.bufs cs.v) x (pos 0)) m
  pub others : (b : ℕ) → b ≢ to.i → b ≢ to.j → b ≢ to.v → u.bufs b ≡ s.bufs b
  pub regs : (r : ℕ) → r < n → u.regs r ≡ s.regs r
  pub steps : u.steps ≤ s.steps + m * (2 * tests + 9) + 2
  pub stuck : u.stuck ≡ s.stuck

-- a buffer of the entries: it has m cells, and is none of the new ones
pub record IsSource (to : Columns) (bufs : ℕ → List ℤ) (m b : ℕ) : Type 0 where
  pub long : length (bufs b) ≡ m
  pub not_row : b ≢ to.i
  pub not_col : b ≢ to.j
  pub not_value : b ≢ to.v

abbrev pub CopiesChosen : Type 0
CopiesChosen =
    (env : Env) (cs : Columns) (ts : List Test) (to : Columns) (n m : ℕ) (s : State) → env.dims cs.count ≡ m → m < 2 ^ 62 → AreLong ts s.bufs m → Lacks ts to.i → Lacks ts to.j → Lacks ts to.v
    → IsSource to s.bufs m cs.i → IsSource to s.bufs m cs.j → IsSource to s.bufs m cs.v → to.i ≢ to.j → to.i ≢ to.v → to.j ≢ to.v → env.dims to.count ≡ chosen (passes_all ts s.bufs) m
    → length (s.bufs to.i) ≡ chosen (passes_all ts s.bufs) m → length (s.bufs to.j) ≡ chosen (passes_all ts s.bufs) m → length (s.bufs to.v) ≡ chosen (passes_all ts s.bufs) m
    → Copied n m (length ts) (passes_all ts s.bufs) cs to s (exec env (copy_chosen cs ts to n) s)
