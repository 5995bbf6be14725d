-- What a block does, and how many steps it takes.
use Rattle.std.specs.Prelude.{ℕ, zero, suc, ◌+◌, ◌-◌, ◌*◌, Bool, true, false, cond, eqb, ◌&&◌, nat_lt, nat_eq, List, [], ◌∷◌, length, map, Option, Some, None, slice_index_or, slice_set, ℤ, pos, negsuc, ◌+ℤ◌, ◌-ℤ◌, ◌*ℤ◌}
use Rattle.std.specs.Int.{int_wrap, int_div_euclid, int_rem_euclid}
use mir.Syntax.{w64}
use lib.Signed.{lt_z}
use Rattle.us_code.specs.declared.program.Dim.{Dim}
use Rattle.us_code.specs.declared.program.Dim.TheVariants as dim
use Rattle.us_code.specs.declared.program.Buf.{Buf}
use Rattle.us_code.specs.declared.program.Buf.TheVariants as buf
use Rattle.us_code.specs.Plain.{TermTree, Number, Reg, Size, Flat, Next, Up, Add, Sub, Mul, Div, Rem, Code, End, Let, Load, Var, Put, Set, For, Span, If, When, Order}
use Rattle.us_code.specs.Sort.{ordered}

-- what a block only reads: the value of each dim, the right factor of each product, and the sources
pub record Env : Type 0 where
  pub dims : ℕ → ℕ
  pub factors : ℕ → ℕ
  pub sources : ℕ → List ℤ

-- what a block changes. `stuck` is set by a load, a store or an order outside the rules, and stays set
pub record State : Type 0 where
  pub regs : ℕ → ℤ
  pub bufs : ℕ → List ℤ
  pub steps : ℕ
  pub stuck : Bool

-- f with v at x
unfoldable pub put : {A : Type 0} → (ℕ → A) → ℕ → A → ℕ → A
put f x v y = cond (eqb x y) v (f y)

-- the value of a dim
abbrev pub size_of : Env → Dim → ℕ
size_of env (dim.Number n) = n
size_of env (dim.Name d) = env.dims d
size_of env (dim.Len k) = length (env.sources k)

-- the cells of a buffer
abbrev pub cells : Env → State → Buf → List ℤ
cells env s (buf.New b) = s.bufs b
cells env s (buf.Source k) = env.sources k

-- the value of a term
abbrev pub value : Env → (ℕ → ℤ) → TermTree → ℤ
value env regs (Number n) = pos n
value env regs (Reg r) = regs r
value env regs (Size d) = pos (size_of env d)
value env regs (Flat d p c) = value env regs p *ℤ pos (env.factors d) +ℤ value env regs c
value env regs (Next d x) = value env regs x +ℤ pos 1
value env regs (Up d x) = value env regs x
value env regs (Add a b) = int_wrap w64 (value env regs a +ℤ value env regs b)
value env regs (Sub a b) = int_wrap w64 (value env regs a -ℤ value env regs b)
value env regs (Mul a b) = int_wrap w64 (value env regs a *ℤ value env regs b)
value env regs (Div a k) = int_div_euclid (value env regs a) (pos k)
value env regs (Rem a k) = int_rem_euclid (value env regs a) (pos k)

-- a number as a place: its natural number, if it is one below n
abbrev pub place : ℤ → ℕ → Option ℕ
place (pos k) n = cond (nat_lt k n) (Some k) None
place (negsuc k) n = None

-- how many numbers there are from a to b, b left out
abbrev pub gap : ℤ → ℤ → ℕ
gap (pos a) (pos b) = b - a
gap (negsuc a) (pos b) = b + a + 1
gap (negsuc a) (negsuc b) = a - b
gap (pos a) (negsuc b) = 0

-- n steps
abbrev pub tick : ℕ → State → State
tick n s = record { regs = s.regs; bufs = s.bufs; steps = s.steps + n; stuck = s.stuck }

abbrev pub set_reg : ℕ → ℤ → State → State
set_reg r v s = record { regs = put s.regs r v; bufs = s.bufs; steps = s.steps; stuck = s.stuck }

abbrev pub set_buf : ℕ → List ℤ → State → State
set_buf b xs s = record { regs = s.regs; bufs = put s.bufs b xs; steps = s.steps; stuck = s.stuck }

-- outside the rules
abbrev pub fail : State → State
fail s = record { regs = s.regs; bufs = s.bufs; steps = s.steps; stuck = true }

-- a cell, if it is there, in a register
abbrev pub loaded : ℕ → List ℤ → Option ℕ → State → State
loaded r xs None s = fail (set_reg r (pos 0) s)
loaded r xs (Some k) s = set_reg r (slice_index_or xs k (pos 0)) s

-- a value in a cell, if it is there
abbrev pub stored : Buf → List ℤ → Option ℕ → ℤ → State → State
stored b xs None v s = fail s
stored (buf.New b) xs (Some k) v s = set_buf b (slice_set xs k v) s
stored (buf.Source b) xs (Some k) v s = fail s

-- t turns of a loop, the first of them first
abbrev pub turns : ℕ → (ℕ → State → State) → State → State
turns zero f s = s
turns (suc t) f s = f t (turns t f s)

-- the block of a `when` that runs
abbrev pub entered : Option ℕ → (ℕ → State) → State → State
entered None f s = s
entered (Some k) f s = f k

-- whether each key has n cells
abbrev pub all_long : ℕ → List (List ℤ) → Bool
all_long n [] = true
all_long n (k ∷ ks) = nat_eq (length k) n && all_long n ks

abbrev pub sorted_if : Bool → ℕ → List ℤ → State → State
sorted_if true b xs s = set_buf b xs s
sorted_if false b xs s = fail s

-- the buffer becomes its places in the order of the keys
abbrev pub sorted : Buf → ℕ → List (List ℤ) → State → State
sorted (buf.New b) n keys s = sorted_if (all_long n keys) b (map pos (ordered keys n)) s
sorted (buf.Source k) n keys s = fail s

-- left = right, or left < right
abbrev pub test : Bool → ℤ → ℤ → Bool
test true (pos a) (pos b) = nat_eq a b
test true (negsuc a) (negsuc b) = nat_eq a b
test true (pos a) (negsuc b) = false
test true (negsuc a) (pos b) = false
test false a b = lt_z a b

-- the state that a block leaves
abbrev pub exec : Env → Code → State → State
exec env End s = s
exec env (Let r e rest) s = exec env rest (set_reg r (value env s.regs e) (tick 1 s))
exec env (Load r b at rest) s = exec env rest (loaded r (cells env s b) (place (value env s.regs at) (length (cells env s b))) (tick 1 s))
exec env (Var r e rest) s = exec env rest (set_reg r (value env s.regs e) (tick 1 s))
exec env (Put r e rest) s = exec env rest (set_reg r (value env s.regs e) (tick 1 s))
exec env (Set b at e rest) s = exec env rest (stored b (cells env s b) (place (value env s.regs at) (length (cells env s b))) (value env s.regs e) (tick 1 s))
exec env (For r d body rest) s = exec env rest (turns (size_of env d) (λ t u. exec env body (set_reg r (pos t) (tick 1 u))) (tick 1 s))
exec env (Span r a b d body rest) s =
    exec env rest (turns (gap (value env s.regs a) (value env s.regs b)) (λ t u. exec env body (set_reg r (value env s.regs a +ℤ pos t) (tick 1 u))) (tick 1 s))
exec env (If l eq r body given other rest) s =
    exec env rest (cond (test eq (value env s.regs l) (value env s.regs r)) (exec env body (tick 1 s)) (exec env other (tick 1 s)))
exec env (When e d r body given other rest) s =
    exec env rest (entered (place (value env s.regs e) (size_of env d)) (λ k. exec env body (set_reg r (pos k) (tick 1 s))) (exec env other (tick 1 s)))
exec env (Order b keys rest) s =
    exec env rest (sorted b (length (cells env s b)) (map (cells env s) keys) (tick (length (cells env s b) * length keys + 1) s))
