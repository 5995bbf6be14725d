-- What the levels need of the entries, and what they leave after some of them.
use Rattle.std.specs.Prelude.{◌≡◌, ℕ, suc, ◌+◌, ◌-◌, ◌*◌, ◌^◌, ◌<◌, ◌≤◌, Bool, true, false, not, cond, List, [], ◌∷◌, length, ℤ, pos}
use Rattle.us_code.specs.Plain.{TermTree}
use Rattle.us_code.specs.Names.{UsesTerm}
use Rattle.us_code.specs.Run.{Env, State, size_of, value}
use Rattle.us_code_laws.specs.Does.{Does}
use Rattle.us_running.specs.Running.{is_new, seen, before, less_one, written, Table}
use Rattle.us_gen_build.specs.declared.levels.Role.{Role}
use Rattle.us_gen_build.specs.declared.levels.Role.TheVariants.{Full, Shared, Single, AtPosition, AtRank, Counted, Marked, Kept}
use Rattle.us_gen_build.specs.Levels.{LevelTree, levels}

-- the entries in the order of the turns: the registers below `base` at each turn, and the size and the coordinates of each level
pub record Turns : Type 0 where
  pub env : Env
  pub count : ℕ
  pub turn : ℕ  -- the register of the turn
  pub base : ℕ
  pub held : ℕ → ℕ → ℤ
  pub coord : LevelTree → ℕ → ℕ
  pub wide : LevelTree → ℕ

-- the positions of the entries at a level, from those above and the coordinates
abbrev pub position_of : Role → ℕ → (ℕ → ℕ) → (ℕ → ℕ) → ℕ → ℕ
position_of Full w at c x = at x * w + c x
position_of Shared w at c x = seen (λ y. at y * w + c y) (suc x) - 1
position_of Single w at c x = x
position_of AtPosition w at c x = at x
position_of AtRank w at c x = at x
position_of Counted w at c x = seen (λ y. at y * w + c y) (suc x) - 1
position_of Marked w at c x = x
position_of Kept w at c x = at x

-- a level marks `pos`, writes `crd`, compares coordinates, or takes the position above as the rank
abbrev pub marks_pos : Role → Bool → Bool
marks_pos Full top = false
marks_pos Shared top = not top
marks_pos Single top = not top
marks_pos AtPosition top = false
marks_pos AtRank top = false
marks_pos Counted top = false
marks_pos Marked top = not top
marks_pos Kept top = false

abbrev pub writes_crd : Role → Bool
writes_crd Full = false
writes_crd Shared = true
writes_crd Single = true
writes_crd AtPosition = true
writes_crd AtRank = true
writes_crd Counted = false
writes_crd Marked = false
writes_crd Kept = false

abbrev pub has_key : Role → Bool
has_key Full = true
has_key Shared = true
has_key Single = false
has_key AtPosition = false
has_key AtRank = false
has_key Counted = true
has_key Marked = false
has_key Kept = false

abbrev pub is_at_rank : Role → Bool
is_at_rank Full = false
is_at_rank Shared = false
is_at_rank Single = false
is_at_rank AtPosition = false
is_at_rank AtRank = true
is_at_rank Counted = false
is_at_rank Marked = false
is_at_rank Kept = false

-- the term reads registers below b alone
abbrev pub Reads : ℕ → TermTree → Type 0
Reads b e = UsesTerm (λ r. r < b) (λ d. Unit {0}) e

-- nothing outside the names from lo to hi changed
pub record IsSameOutside (lo hi : ℕ) (s u : State) : Type 0 where
  pub regs : (r : ℕ) → (lo ≤ r → hi ≤ r) → u.regs r ≡ s.regs r
  pub bufs : (b : ℕ) → (lo ≤ b → hi ≤ b) → u.bufs b ≡ s.bufs b

-- the first name behind those of the levels
abbrev pub names_end : ℕ → List LevelTree → ℕ
names_end lo [] = lo
names_end lo (l ∷ ls) = names_end (l.first + 4) ls

module _ (T : Turns) where
  -- the number by which an entry's node is told from that of the entry before
  abbrev pub keys : LevelTree → (ℕ → ℕ) → ℕ → ℕ
  keys l at x = at x * T.wide l + T.coord l x

  -- what a level needs under entries at these positions
  pub record Needs (r : Role) (l : LevelTree) (at : ℕ → ℕ) : Type 0 where
    pub room : T.base ≤ l.first
    pub reads_coord : Reads T.base l.coord
    pub reads_size : Reads T.base l.size
    pub is_coord : (x : ℕ) → x < T.count → has_key r ≡ true → value T.env (T.held x) l.coord ≡ pos (T.coord l x)
    pub is_size : (x : ℕ) → x < T.count → has_key r ≡ true → value T.env (T.held x) l.size ≡ pos (T.wide l)
    pub small : (x : ℕ) → x < T.count → has_key r ≡ true → at x * T.wide l + T.coord l x < 2 ^ 63
    pub small_at : (x : ℕ) → x < T.count → at x + 1 < 2 ^ 63
    pub in_pos : (x : ℕ) → x < T.count → marks_pos r l.is_top ≡ true → at x + 1 < size_of T.env l.pos_length
    pub is_rank : (x : ℕ) → x < T.count → is_at_rank r ≡ true → at x ≡ x
    pub in_crd : (x : ℕ) → x < T.count → writes_crd r ≡ true → position_of r (T.wide l) at (T.coord l) x < size_of T.env l.crd_length

  -- at turn x the registers below `base` are those of the turn
  pub record Holds (x : ℕ) (s : State) : Type 0 where
    pub regs : (r : ℕ) → r < T.base → s.regs r ≡ T.held x r
    pub turn : s.regs T.turn ≡ pos x
    pub within : T.turn < T.base

  -- what the cells of `pos` and `crd` are after x entries
  abbrev pub shared_marks : LevelTree → (ℕ → ℕ) → ℕ → ℕ → ℤ
  shared_marks l at x = written (λ y. cond (not l.is_top) (is_new (keys l at) y) false) (λ y. at y + 1) (λ y. pos (seen (keys l at) (suc y))) x

  abbrev pub single_marks : LevelTree → (ℕ → ℕ) → ℕ → ℕ → ℤ
  single_marks l at x = written (λ y. not l.is_top) (λ y. at y + 1) (λ y. pos (y + 1)) x

  abbrev pub shared_cells : LevelTree → (ℕ → ℕ) → ℕ → ℕ → ℤ
  shared_cells l at x = written (is_new (keys l at)) (position_of Shared (T.wide l) at (T.coord l)) (λ y. value T.env (T.held y) l.coord) x

  abbrev pub cells_at : LevelTree → (ℕ → ℕ) → ℕ → ℕ → ℤ
  cells_at l place x = written (λ y. true) place (λ y. value T.env (T.held y) l.coord) x

  -- the registers of a level of nodes that entries share: the last key, and the last node
  pub record Counts (l : LevelTree) (at : ℕ → ℕ) (x : ℕ) (u : State) : Type 0 where
    pub last : u.regs l.first ≡ before (keys l at) x
    pub node : u.regs (l.first + 1) ≡ less_one (seen (keys l at) x)

  pub record Shares (l : LevelTree) (at : ℕ → ℕ) (x : ℕ) (u : State) : Type 0 where
    pub last : u.regs l.first ≡ before (keys l at) x
    pub node : u.regs (l.first + 1) ≡ less_one (seen (keys l at) x)
    pub marks : Table (u.bufs l.first) (size_of T.env l.pos_length) (shared_marks l at x)
    pub cells : Table (u.bufs (l.first + 1)) (size_of T.env l.crd_length) (shared_cells l at x)

  pub record Ranks (l : LevelTree) (at : ℕ → ℕ) (x : ℕ) (u : State) : Type 0 where
    pub marks : Table (u.bufs l.first) (size_of T.env l.pos_length) (single_marks l at x)
    pub cells : Table (u.bufs (l.first + 1)) (size_of T.env l.crd_length) (cells_at l (λ y. y) x)

  pub record Marks (l : LevelTree) (at : ℕ → ℕ) (x : ℕ) (u : State) : Type 0 where
    pub marks : Table (u.bufs l.first) (size_of T.env l.pos_length) (single_marks l at x)

  pub record Spreads (l : LevelTree) (place : ℕ → ℕ) (x : ℕ) (u : State) : Type 0 where
    pub cells : Table (u.bufs (l.first + 1)) (size_of T.env l.crd_length) (cells_at l place x)

  -- a level's registers and buffers after x entries
  abbrev pub LevelAfter : Role → LevelTree → (ℕ → ℕ) → ℕ → State → Type 0
  LevelAfter Full l at x u = Unit {0}
  LevelAfter Shared l at x u = Shares l at x u
  LevelAfter Single l at x u = Ranks l at x u
  LevelAfter AtPosition l at x u = Spreads l at x u
  LevelAfter AtRank l at x u = Spreads l (λ y. y) x u
  LevelAfter Counted l at x u = Counts l at x u
  LevelAfter Marked l at x u = Marks l at x u
  LevelAfter Kept l at x u = Unit {0}

  -- the steps for the first x entries
  abbrev pub cost : Role → LevelTree → (ℕ → ℕ) → ℕ → ℕ
  cost Full l at x = 0
  cost Shared l at x = x + 6 * seen (keys l at) x
  cost Single l at x = 3 * x
  cost AtPosition l at x = 2 * x
  cost AtRank l at x = x
  cost Counted l at x = x + 2 * seen (keys l at) x
  cost Marked l at x = 2 * x
  cost Kept l at x = 0

  -- the positions of the entries at a level
  abbrev pub inside : LevelTree → (ℕ → ℕ) → ℕ → ℕ
  inside l at = position_of l.role (T.wide l) at (T.coord l)

  -- the same for all levels, whose names rise from lo on
  abbrev pub LevelsAfter : List LevelTree → (ℕ → ℕ) → ℕ → State → Type 0
  LevelsAfter [] at x u = Unit {0}
  LevelsAfter (l ∷ ls) at x u = LevelAfter l.role l at x u × LevelsAfter ls (inside l at) x u

  abbrev pub AllNeed : ℕ → List LevelTree → (ℕ → ℕ) → Type 0
  AllNeed lo [] at = Unit {0}
  AllNeed lo (l ∷ ls) at = (lo ≤ l.first) × Needs l.role l at × AllNeed (l.first + 4) ls (inside l at)

  abbrev pub costs : List LevelTree → (ℕ → ℕ) → ℕ → ℕ
  costs [] at x = 0
  costs (l ∷ ls) at x = cost l.role l at x + costs ls (inside l at) x

  -- from s to u the levels took entry x
  pub record TookEntry (lo : ℕ) (ls : List LevelTree) (at : ℕ → ℕ) (x : ℕ) (s u : State) : Type 0 where
    pub after : LevelsAfter ls at (suc x) u
    pub same : IsSameOutside lo (names_end lo ls) s u
    pub steps : u.steps + costs ls at x ≤ s.steps + costs ls at (suc x)

-- under position q each level takes the entry of a turn, at its cost
abbrev pub LevelsTakeEntries : Type 0
LevelsTakeEntries =
    (T : Turns) (lo : ℕ) (ls : List LevelTree) (at : ℕ → ℕ) (q : TermTree) (x : ℕ) (s : State)
    → x < T.count → T.count < 2 ^ 62 → T.base ≤ lo → AllNeed T lo ls at
    → Holds T x s → Reads lo q → value T.env s.regs q ≡ pos (at x) → LevelsAfter T ls at x s → Does T.env (levels ls q T.turn) s (TookEntry T lo ls at x s)
