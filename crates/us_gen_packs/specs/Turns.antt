-- What packs need of the entries, and what they hold after some of them.
use Rattle.std.specs.Prelude.{◌≡◌, ℕ, suc, ◌+◌, ◌*◌, ◌<◌, ◌≤◌, true, List, [], ◌∷◌, length, slice_index_or, ℤ, pos}
use Rattle.us_code.specs.Plain.{TermTree, Number}
use Rattle.us_code.specs.Run.{State, size_of, value}
use Rattle.us_code_laws.specs.Does.{Does}
use Rattle.us_running.specs.Running.{written}
use Rattle.us_gen_build.specs.Levels.{LevelTree}
use Rattle.us_gen_build.specs.Turns.{Turns, Reads, IsSameOutside, Holds, inside}
use Rattle.us_gen_packs.specs.Packs.{PackTree, width, packs}

-- the terms read registers below b alone
abbrev pub AllRead : ℕ → List TermTree → Type 0
AllRead b [] = Unit {0}
AllRead b (e ∷ es) = Reads b e × AllRead b es

-- the number that column y gets
abbrev pub column : List TermTree → ℕ → TermTree
column es y = slice_index_or es y (Number 0)

-- the first name behind those of the packs
abbrev pub packs_end : ℕ → List PackTree → ℕ
packs_end lo [] = lo
packs_end lo (w ∷ ws) = packs_end (w.first + 1) ws

-- cells of a pack of w columns of n cells: cell z of column y is cell z * w + y
pub record Interleaves (cells : List ℤ) (n w : ℕ) (f : ℕ → ℕ → ℤ) : Type 0 where
  pub long : length cells ≡ n * w
  pub each : (z y : ℕ) → z < n → y < w → slice_index_or cells (z * w + y) (pos 0) ≡ f y z

module _ (T : Turns) where
  -- the positions of the entries behind the levels
  abbrev pub last_at : List LevelTree → (ℕ → ℕ) → ℕ → ℕ
  last_at [] at = at
  last_at (l ∷ ls) at = last_at ls (inside T l at)

  -- what a pack needs where the entries stand at these positions
  pub record PackNeeds (w : PackTree) (at : ℕ → ℕ) : Type 0 where
    pub room : T.base ≤ w.first
    pub reads : AllRead T.base w.columns
    pub factor : T.env.factors w.cells ≡ width w
    pub within : (x : ℕ) → x < T.count → at x < size_of T.env w.length
    pub is_rank : (x : ℕ) → x < T.count → w.at_rank ≡ true → at x ≡ x

  -- cell z of column y after x entries
  abbrev pub column_after : PackTree → (ℕ → ℕ) → ℕ → ℕ → ℕ → ℤ
  column_after w at x y z = written (λ t. true) at (λ t. value T.env (T.held t) (column w.columns y)) x z

  abbrev pub PackAfter : PackTree → (ℕ → ℕ) → ℕ → State → Type 0
  PackAfter w at x u = Interleaves (u.bufs w.first) (size_of T.env w.length) (width w) (column_after w at x)

  -- the same for all packs, whose names rise from lo on
  abbrev pub PacksNeed : ℕ → List PackTree → (ℕ → ℕ) → Type 0
  PacksNeed lo [] at = Unit {0}
  PacksNeed lo (w ∷ ws) at = (lo ≤ w.first) × PackNeeds w at × PacksNeed (w.first + 1) ws at

  abbrev pub PacksAfter : List PackTree → (ℕ → ℕ) → ℕ → State → Type 0
  PacksAfter [] at x u = Unit {0}
  PacksAfter (w ∷ ws) at x u = PackAfter w at x u × PacksAfter ws at x u

-- the steps for one entry: a test for each pack, and one for each column
abbrev pub packs_cost : List PackTree → ℕ
packs_cost [] = 0
packs_cost (w ∷ ws) = 1 + width w + packs_cost ws

module _ (T : Turns) where
  -- from s to u the packs took entry x
  pub record PackedEntry (lo : ℕ) (ws : List PackTree) (at : ℕ → ℕ) (x : ℕ) (s u : State) : Type 0 where
    pub after : PacksAfter T ws at (suc x) u
    pub same : IsSameOutside lo (packs_end lo ws) s u
    pub steps : u.steps ≤ s.steps + packs_cost ws

-- at position q each pack takes the entry of a turn, in one step for the test and one for each column
abbrev pub PacksTakeEntries : Type 0
PacksTakeEntries =
    (T : Turns) (lo : ℕ) (ws : List PackTree) (at : ℕ → ℕ) (q : TermTree) (x : ℕ) (s : State)
    → x < T.count → T.base ≤ lo → PacksNeed T lo ws at
    → Holds T x s → Reads lo q → value T.env s.regs q ≡ pos (at x) → PacksAfter T ws at x s → Does T.env (packs ws q T.turn) s (PackedEntry T lo ws at x s)
