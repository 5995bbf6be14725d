-- The loop over the entries, and what it leaves.
use Rattle.std.specs.Prelude.{◌≡◌, ◌≢◌, ℕ, suc, ◌+◌, ◌*◌, ◌^◌, ◌<◌, ◌≤◌, Bool, true, false, List, [], ◌∷◌, length, slice_index_or, ℤ, pos, Option, Some, None}
use Rattle.us_code.specs.declared.program.Dim.{Dim}
use Rattle.us_code.specs.declared.program.Buf.TheVariants as buf
use Rattle.us_code.specs.Plain.{Number, Reg, Code, End, Load, Var, Put, Set, For, If}
use Rattle.us_code.specs.Run.{Env, State, put, exec, size_of}
use Rattle.us_code_laws.specs.Does.{Does}
use Rattle.us_running.specs.Running.{top, Table}
use Rattle.us_gen_build.specs.declared.levels.Role.{Role}
use Rattle.us_gen_build.specs.declared.levels.Role.TheVariants.{Full, Shared, Single, AtPosition, AtRank, Counted, Marked, Kept}
use Rattle.us_gen_build.specs.Levels.{LevelTree, levels, opens}
use Rattle.us_gen_build.specs.Turns.{Turns, IsSameOutside, names_end, LevelsAfter, AllNeed, costs}

-- the cells at the place in register e of new buffers, in the registers from k on
abbrev pub loads : List ℕ → ℕ → ℕ → Code → Code
loads [] k e rest = rest
loads (b ∷ bs) k e rest = Load k (buf.New b) (Reg e) (loads bs (k + 1) e rest)

-- the place of a turn's entry: the cell of an order at the turn, or the turn itself
abbrev pub entry_of : Option ℕ → ℕ → ℕ
entry_of None a = a
entry_of (Some p) a = a + 1

abbrev pub picked : Option ℕ → ℕ → Code → Code
picked None a rest = rest
picked (Some p) a rest = Load (a + 1) (buf.New p) (Reg a) rest

-- the first name behind those of the turn, its entry and the columns
abbrev pub levels_from : Option ℕ → List ℕ → ℕ → ℕ
levels_from order cols a = entry_of order a + 1 + length cols

-- a turn of the loop over d entries: the cells of the columns at the entry, and then the levels
abbrev pub turn_body : Option ℕ → List ℕ → List LevelTree → ℕ → Code
turn_body order cols ls a = picked order a (loads cols (entry_of order a + 1) (entry_of order a) (levels ls (Number 0) a))

-- a loop over d entries that loads the cells of the columns at each entry, and goes on with a block
abbrev pub turns_over : Dim → Option ℕ → List ℕ → ℕ → Code → Code
turns_over d order cols a inner = For a d (picked order a (loads cols (entry_of order a + 1) (entry_of order a) inner)) End

abbrev pub entry_loop : Dim → Option ℕ → List ℕ → List LevelTree → ℕ → Code
entry_loop d order cols ls a = For a d (turn_body order cols ls a) End

-- each cell of b becomes the greatest of those up to it
abbrev pub fill_up : ℕ → Dim → ℕ → Code
fill_up b d n =
    Var n (Number 0) (
    For (n + 1) d (
    Load (n + 2) (buf.New b) (Reg (n + 1)) (
    If (Reg (n + 2)) false (Reg n)
    (Set (buf.New b) (Reg (n + 1)) (Reg n) End)
    true (Put n (Reg (n + 2)) End) End))
    End)

-- the registers behind the loads, and behind the turn and its entry
abbrev pub loaded : (ℕ → List ℤ) → List ℕ → ℕ → ℕ → (ℕ → ℤ) → ℕ → ℤ
loaded bufs [] k e f = f
loaded bufs (b ∷ bs) k e f = loaded bufs bs (k + 1) e (put f k (slice_index_or (bufs b) e (pos 0)))

abbrev pub turned : Option ℕ → (ℕ → ℤ) → ℕ → ℕ → ℕ → ℕ → ℤ
turned None f a x e = put f a (pos x)
turned (Some p) f a x e = put (put f a (pos x)) (a + 1) (pos e)

-- what the registers hold at turn x of a loop from s, where place tells the entry of each turn
abbrev pub held_at : ℕ → Option ℕ → List ℕ → (ℕ → ℕ) → State → ℕ → ℕ → ℤ
held_at a order cols place s x = loaded s.bufs cols (entry_of order a + 1) (place x) (turned order s.regs a x (place x))

-- an order's buffer has the places of the entries
abbrev pub Picks : Option ℕ → ℕ → ℕ → (ℕ → List ℤ) → (ℕ → ℕ) → Type 0
Picks None low n bufs place = (x : ℕ) → x < n → place x ≡ x
Picks (Some p) low n bufs place = (p < low) × (length (bufs p) ≡ n) × ((x : ℕ) → x < n → slice_index_or (bufs p) x (pos 0) ≡ pos (place x))

-- buffers below low, of n cells
abbrev pub Columns : ℕ → ℕ → (ℕ → List ℤ) → List ℕ → Type 0
Columns low n bufs [] = Unit {0}
Columns low n bufs (b ∷ bs) = (b < low) × (length (bufs b) ≡ n) × Columns low n bufs bs

-- above the first level there is position 0 alone
abbrev pub at_top : ℕ → ℕ
at_top x = 0

-- what the loop over d entries needs
pub record LoopNeeds (T : Turns) (d : Dim) (order : Option ℕ) (cols : List ℕ) (ls : List LevelTree) (place : ℕ → ℕ) (s : State) : Type 0 where
  pub count : T.count ≡ size_of T.env d
  pub base : T.base ≡ levels_from order cols T.turn
  pub held : (x r : ℕ) → x < T.count → r < T.base → T.held x r ≡ held_at T.turn order cols place s x r
  pub few : T.count < 2 ^ 62
  pub picks : Picks order T.base T.count s.bufs place
  pub within : (x : ℕ) → x < T.count → place x < T.count
  pub columns : Columns T.base T.count s.bufs cols
  pub need : AllNeed T T.base ls at_top

-- from s to u the levels took all entries
pub record TookAll (T : Turns) (cols : List ℕ) (ls : List LevelTree) (s u : State) : Type 0 where
  pub after : LevelsAfter T ls at_top T.count u
  pub same : IsSameOutside T.turn (names_end T.base ls) s u
  pub low : (b : ℕ) → b < T.base → u.bufs b ≡ s.bufs b
  pub steps : u.steps ≤ s.steps + 1 + T.count * (2 + length cols) + costs T ls at_top T.count

-- the loop takes all entries, at the levels' costs and two steps and one a column for each entry
abbrev pub LoopsTakeEntries : Type 0
LoopsTakeEntries =
    (T : Turns) (d : Dim) (order : Option ℕ) (cols : List ℕ) (ls : List LevelTree) (place : ℕ → ℕ) (s : State)
    → LoopNeeds T d order cols ls place s → LevelsAfter T ls at_top 0 s
    → Does T.env (entry_loop d order cols ls T.turn) s (TookAll T cols ls s)

-- new buffers hold 0
module _ (env : Env) where
  abbrev pub ZeroMarks : LevelTree → State → Type 0
  ZeroMarks l u = Table (u.bufs l.first) (size_of env l.pos_length) (λ y. pos 0)

  abbrev pub ZeroCells : LevelTree → State → Type 0
  ZeroCells l u = Table (u.bufs (l.first + 1)) (size_of env l.crd_length) (λ y. pos 0)

  abbrev pub Zero : Role → LevelTree → State → Type 0
  Zero Full l u = Unit {0}
  Zero Shared l u = ZeroMarks l u × ZeroCells l u
  Zero Single l u = ZeroMarks l u × ZeroCells l u
  Zero AtPosition l u = ZeroCells l u
  Zero AtRank l u = ZeroCells l u
  Zero Counted l u = Unit {0}
  Zero Marked l u = ZeroMarks l u
  Zero Kept l u = Unit {0}

  abbrev pub AllZero : List LevelTree → State → Type 0
  AllZero [] u = Unit {0}
  AllZero (l ∷ ls) u = Zero l.role l u × AllZero ls u

module _ (T : Turns) where
  -- from s to u the levels became ready for the first entry
  pub record Opened (lo : ℕ) (ls : List LevelTree) (at : ℕ → ℕ) (s u : State) : Type 0 where
    pub after : LevelsAfter T ls at 0 u
    pub same : IsSameOutside lo (names_end lo ls) s u
    pub bufs : u.bufs ≡ s.bufs
    pub steps : u.steps ≤ s.steps + 2 * length ls
    pub stuck : u.stuck ≡ s.stuck

-- the registers in front of the loop say that no entry was taken
abbrev pub LevelsOpen : Type 0
LevelsOpen =
    (T : Turns) (lo : ℕ) (ls : List LevelTree) (at : ℕ → ℕ) (rest : Code) (s : State) → AllNeed T lo ls at → AllZero T.env ls s
    → (u : State) × (exec T.env (opens ls rest) s ≡ exec T.env rest u) × Opened T lo ls at s u

-- from s to u the cells of b became the greatest of those up to them
pub record FilledUp (b m n : ℕ) (f : ℕ → ℕ) (s u : State) : Type 0 where
  pub cells : Table (u.bufs b) m (λ y. pos (top f (suc y)))
  pub steps : u.steps ≤ s.steps + 2 + 4 * m
  pub regs : (r : ℕ) → (n ≤ r → n + 3 ≤ r) → u.regs r ≡ s.regs r
  pub bufs : (c : ℕ) → b ≢ c → u.bufs c ≡ s.bufs c

abbrev pub BuffersFillUp : Type 0
BuffersFillUp =
    (env : Env) (b m n : ℕ) (d : Dim) (f : ℕ → ℕ) (s : State)
    → size_of env d ≡ m → Table (s.bufs b) m (λ y. pos (f y)) → Does env (fill_up b d n) s (FilledUp b m n f s)
