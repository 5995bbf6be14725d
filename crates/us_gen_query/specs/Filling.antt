-- A loop that fills a column with the values of an expression.
use Rattle.std.specs.Prelude.{◌≡◌, ◌≢◌, ℕ, zero, suc, ◌+◌, ◌*◌, ◌<◌, ◌≤◌, true, cond, List, length, get_or, slice_index_or, ℤ, pos, Some}
use Rattle.us_code.specs.declared.program.Dim.TheVariants as dim
use Rattle.us_code.specs.declared.program.Buf.TheVariants as buf
use Rattle.us_code.specs.declared.program.CellKind.TheVariants as kind
use Rattle.us_code.specs.declared.pieces.Columns.{Columns}
use Rattle.us_code.specs.Plain.{Reg, Code, End, Load, Set, For, ◌+++◌}
use Rattle.us_code.specs.Run.{Env, State, exec}
use Rattle.us_code.specs.Typing.{Context, BufKind, is_some, Typed}
use Rattle.us_gen.specs.Rooms.{FreshFrom}
use Rattle.us_expr.specs.Tree.{Tree, node_count}
use Rattle.us_expr.specs.Value.{IsPoint, IsWithin, value}
use Rattle.us_gen_query.specs.Terms.{reads, reading, term_of, point}

-- the buffer of a column of the entries, and how many columns there are
abbrev pub column : Columns → ℕ → ℕ
column cs zero = cs.i
column cs (suc zero) = cs.j
column cs (suc (suc v)) = get_or cs.vars.items v 0

abbrev pub width : Columns → ℕ
width cs = length cs.vars.items + 2

-- reads column c behind a block, if the expression reads it, at the place in register n into register n + 1 + c
abbrev pub load_more : Columns → Tree → ℕ → ℕ → Code → Code
load_more cs e n c before = cond (reads e c) (before +++ Load (n + 1 + c) (buf.New (column cs c)) (Reg n) End) before

-- reads those of the first c columns that the expression reads
abbrev pub loads : Columns → Tree → ℕ → ℕ → Code
loads cs e n zero = End
loads cs e n (suc c) = load_more cs e n c (loads cs e n c)

-- gives each cell of buffer b the value of an expression at the entry there
abbrev pub fill : Columns → Tree → ℕ → ℕ → Code
fill cs e b n = For n (dim.Name cs.count) (loads cs e n (width cs) +++ Set (buf.New b) (Reg n) (term_of e (n + 1)) End) End

-- a column of words, as long as the entries
abbrev pub words : Columns → BufKind
words cs = record { len = dim.Name cs.count; cell = kind.Word }

-- the columns of the entries are visible, and their dim
pub record Visible (g : Context) (cs : Columns) : Type 0 where
  pub count : is_some (g.dims cs.count) ≡ true
  pub columns : (c : ℕ) → c < width cs → g.bufs (column cs c) ≡ Some (words cs)

abbrev pub FillTyped : Type 0
FillTyped =
    (g : Context) (cs : Columns) (e : Tree) (b n : ℕ) → FreshFrom g n → Visible g cs → g.bufs b ≡ Some (words cs)
    → IsWithin (length cs.vars.items) e → Typed g (fill cs e b n)

-- the columns hold m entries, with their rows, their columns and the values of their variables
pub record Entries (env : Env) (cs : Columns) (bufs : ℕ → List ℤ) (m : ℕ) (row col : ℕ → ℤ) (vars : ℕ → List ℤ) : Type 0 where
  pub count : env.dims cs.count ≡ m
  pub long : (c : ℕ) → c < width cs → length (bufs (column cs c)) ≡ m
  pub cells : (c x : ℕ) → c < width cs → x < m → slice_index_or (bufs (column cs c)) x (pos 0) ≡ point (row x) (col x) (vars x) c
  pub points : (x : ℕ) → x < m → IsPoint (row x) (col x) (vars x)
  pub variables : (x : ℕ) → x < m → length (vars x) ≡ length cs.vars.items

-- from s to u the first t cells of buffer b got the values of f, and nothing else changed but registers from n on
pub record Filled (b n m cost : ℕ) (f : ℕ → ℤ) (t : ℕ) (s u : State) : Type 0 where
  pub long : length (u.bufs b) ≡ m
  pub cells : (x : ℕ) → x < t → slice_index_or (u.bufs b) x (pos 0) ≡ f x
  pub others : (k : ℕ) → k ≢ b → u.bufs k ≡ s.bufs k
  pub regs : (r : ℕ) → r < n → u.regs r ≡ s.regs r
  pub steps : u.steps ≡ s.steps + 1 + t * cost

-- the loop takes 2 steps an entry, and one for each column that is read
pub record FillsIn (env : Env) (cs : Columns) (e : Tree) (b n m : ℕ) (f : ℕ → ℤ) (s : State) : Type 0 where
  pub filled : Filled b n m (2 + reading e (width cs)) f m s (exec env (fill cs e b n) s)
  pub stuck : (exec env (fill cs e b n) s).stuck ≡ s.stuck

abbrev pub Fills : Type 0
Fills =
    (env : Env) (cs : Columns) (e : Tree) (b n m : ℕ) (row col : ℕ → ℤ) (vars : ℕ → List ℤ) (s : State) → Entries env cs s.bufs m row col vars
    → ((c : ℕ) → c < width cs → column cs c ≢ b) → length (s.bufs b) ≡ m → IsWithin (length cs.vars.items) e → node_count e ≤ 32
    → FillsIn env cs e b n m (λ x. value (row x) (col x) (vars x) e) s
