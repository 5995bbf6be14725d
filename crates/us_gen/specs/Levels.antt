-- Nests over a list of levels, the outermost first.
use Rattle.std.specs.Prelude.{◌≡◌, ℕ, ◌+◌, ◌*◌, ◌^◌, ◌<◌, ◌≤◌, Bool, true, false, List, [], ◌∷◌, length, slice_index_or, ℤ, pos}
use Rattle.us_gen.specs.declared.nests.Level.{Level}
use Rattle.us_gen.specs.declared.nests.Level.TheVariants.{Full, Nodes, Crd, Cell, Packed}
use Rattle.us_code.specs.declared.program.Dim.{Dim}
use Rattle.us_code.specs.declared.program.Dim.TheVariants as dim
use Rattle.us_code.specs.Plain.{TermTree, Number, Reg, Size, Add, Mul, Code, End, Span, When}
use Rattle.us_code.specs.Run.{Env, State, size_of}
use Rattle.us_code.specs.Runs.{whole}
use Rattle.us_gen.specs.Nest.{under, full_level, node_level, crd_level, cell_level, Visits, Starts, InFull, InNodes, InCell, At}

-- a dim as a term
abbrev pub size_term : Dim → TermTree
size_term (dim.Number n) = Number n
size_term (dim.Name d) = Size (dim.Name d)
size_term (dim.Len k) = Size (dim.Len k)

-- place `digit` of position q in a pack of w columns
abbrev pub in_pack : TermTree → ℕ → ℕ → TermTree
in_pack q w digit = Add (Mul q (Number w)) (Number digit)

-- the loop of a level of nodes between two loaded ends
abbrev pub node_turns : Dim → Dim → ℕ → Code → Code
node_turns more nodes n inner =
    When (Reg (n + 1)) more (n + 4) (
    When (Reg (n + 3)) more (n + 5) (
    Span (n + 6) (Reg (n + 4)) (Reg (n + 5)) nodes inner End)
    false End End)
    false End End

-- the code of a level under position q, with registers from n on
abbrev pub level : Level → TermTree → ℕ → Code → Code
level (Full size) q n inner = full_level size n inner
level (Nodes k more nodes) q n inner = node_level q k more nodes n inner
level (Crd k) q n inner = crd_level q k n inner
level (Cell k) q n inner = cell_level q k n inner
level (Packed k w digit) q n inner = cell_level (in_pack q w digit) k n inner

-- how many registers it names, and the term of the position inside
abbrev pub names : Level → ℕ
names (Full size) = 1
names (Nodes k more nodes) = 7
names (Crd k) = 1
names (Cell k) = 2
names (Packed k w digit) = 2

abbrev pub position : Level → TermTree → ℕ → TermTree
position (Full size) q n = under q (size_term size) n
position (Nodes k more nodes) q n = Reg (n + 6)
position (Crd k) q n = q
position (Cell k) q n = q
position (Packed k w digit) q n = q

-- the register of the coordinate, or of the position of a node
abbrev pub coordinate : Level → ℕ → ℕ
coordinate (Full size) n = n
coordinate (Nodes k more nodes) n = n + 6
coordinate (Crd k) n = n
coordinate (Cell k) n = n + 1
coordinate (Packed k w digit) n = n + 1

abbrev pub cell : List ℤ → ℕ → ℤ
cell xs k = slice_index_or xs k (pos 0)

-- where the positions inside q start, how many there are inside N, and the steps for all in front of q
abbrev pub first : Env → Level → ℕ → ℕ
first env (Full size) q = q * size_of env size
first env (Nodes k more nodes) q = whole (cell (env.sources k) q)
first env (Crd k) q = q
first env (Cell k) q = q
first env (Packed k w digit) q = q

abbrev pub inside : Env → Level → ℕ → ℕ
inside env (Full size) N = N * size_of env size
inside env (Nodes k more nodes) N = size_of env nodes
inside env (Crd k) N = N
inside env (Cell k) N = N
inside env (Packed k w digit) N = N

abbrev pub work : Env → Level → ℕ → ℕ
work env (Full size) q = q + q * size_of env size
work env (Nodes k more nodes) q = 7 * q + whole (cell (env.sources k) q)
work env (Crd k) q = q
work env (Cell k) q = 2 * q
work env (Packed k w digit) q = 2 * q

-- what its sources and dims must be, around N positions
abbrev pub Fits : Env → Level → ℕ → Type 0
Fits env (Full size) N = N * size_of env size < 2 ^ 63
Fits env (Nodes k more nodes) N = Starts (env.sources k) N (size_of env nodes) (λ p. whole (cell (env.sources k) p)) × (size_of env more ≡ size_of env nodes + 1)
Fits env (Crd k) N = N ≤ length (env.sources k)
Fits env (Cell k) N = N ≤ length (env.sources k)
Fits env (Packed k w digit) N = (digit < w) × (N * w ≤ length (env.sources k)) × (length (env.sources k) < 2 ^ 63)

-- what the registers hold inside
abbrev pub Inside : Env → Level → ℕ → ℕ → (ℕ → (ℕ → ℤ) → Type 0) → ℕ → (ℕ → ℤ) → Type 0
Inside env (Full size) n N K = InFull K N (size_of env size) n
Inside env (Nodes k more nodes) n N K = InNodes K N (λ p. whole (cell (env.sources k) p)) n
Inside env (Crd k) n N K = InCell K (λ q. cell (env.sources k) q) n
Inside env (Cell k) n N K = InCell K (λ q. cell (env.sources k) q) (n + 1)
Inside env (Packed k w digit) n N K = InCell K (λ q. cell (env.sources k) (q * w + digit)) (n + 1)

-- the same of a list of levels
abbrev pub nest : List Level → TermTree → ℕ → Code → Code
nest [] q n inner = inner
nest (l ∷ ls) q n inner = level l q n (nest ls (position l q n) (n + names l) inner)

abbrev pub end_of : List Level → ℕ → ℕ
end_of [] n = n
end_of (l ∷ ls) n = end_of ls (n + names l)

abbrev pub position_in : List Level → TermTree → ℕ → TermTree
position_in [] q n = q
position_in (l ∷ ls) q n = position_in ls (position l q n) (n + names l)

abbrev pub first_in : Env → List Level → ℕ → ℕ
first_in env [] q = q
first_in env (l ∷ ls) q = first_in env ls (first env l q)

abbrev pub all_inside : Env → List Level → ℕ → ℕ
all_inside env [] N = N
all_inside env (l ∷ ls) N = all_inside env ls (inside env l N)

abbrev pub work_in : Env → List Level → (ℕ → ℕ) → ℕ → ℕ
work_in env [] C q = C q
work_in env (l ∷ ls) C q = work_in env ls C (first env l q) + work env l q

abbrev pub AllFit : Env → List Level → ℕ → Type 0
AllFit env [] N = Unit {0}
AllFit env (l ∷ ls) N = Fits env l N × AllFit env ls (inside env l N)

abbrev pub AllInside : Env → List Level → ℕ → ℕ → (ℕ → (ℕ → ℤ) → Type 0) → ℕ → (ℕ → ℤ) → Type 0
AllInside env [] n N K = K
AllInside env (l ∷ ls) n N K = AllInside env ls (n + names l) (inside env l N) (Inside env l n N K)

-- the first block is done for each position in order: from the buffers and running registers of q to those of q + 1
abbrev pub Running : (ℕ → Bool) → (ℕ → ℕ → List ℤ) → (ℕ → ℕ → ℤ) → ℕ → State → Type 0
Running runs bufs held q s = (s.bufs ≡ bufs q) × ((r : ℕ) → runs r ≡ true → s.regs r ≡ held q r)

-- a register that doesn't run
abbrev pub stays : (ℕ → Bool) → ℕ → Type 0
stays runs r = runs r ≡ false

-- the registers below n that don't run hold these values
abbrev pub Held : (ℕ → Bool) → ℕ → (ℕ → ℕ → ℤ) → ℕ → (ℕ → ℤ) → Type 0
Held runs n top q f = (r : ℕ) → runs r ≡ false → r < n → f r ≡ top q r

-- around a block that leads from the buffers and running registers of each position to those of the next, a nest does, from those of the first position inside
abbrev pub NestsVisit : Type 0
NestsVisit =
    (env : Env) (runs : ℕ → Bool) (ls : List Level) (e : TermTree) (n N : ℕ) (inner : Code) (top : ℕ → ℕ → ℤ) (bufs : ℕ → ℕ → List ℤ) (held : ℕ → ℕ → ℤ) (C : ℕ → ℕ)
    → ((r : ℕ) → n ≤ r → runs r ≡ false) → At env e N (Held runs n top) (λ q. q) → AllFit env ls N
    → Visits env (stays runs) inner (end_of ls n) (all_inside env ls N) (AllInside env ls n N (Held runs n top)) (Running runs bufs held) C
    → Visits env (stays runs) (nest ls e n inner) n N (Held runs n top) (λ q. Running runs bufs held (first_in env ls q)) (work_in env ls C)

-- inside a nest the position is the value of its term
abbrev pub NestsPlace : Type 0
NestsPlace =
    (env : Env) (runs : ℕ → Bool) (ls : List Level) (e : TermTree) (n N : ℕ) (top : ℕ → ℕ → ℤ) → At env e N (Held runs n top) (λ q. q) → AllFit env ls N
    → At env (position_in ls e n) (all_inside env ls N) (AllInside env ls n N (Held runs n top)) (λ q. q)
