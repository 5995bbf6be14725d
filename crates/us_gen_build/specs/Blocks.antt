-- The block that builds the buffers of levels, and what it leaves.
use Rattle.std.specs.Prelude.{◌≡◌, ℕ, ◌+◌, ◌*◌, ◌≤◌, Bool, true, false, cond, nat_eq, List, [], ◌∷◌, length, ℤ, pos, Option}
use Rattle.us_code.specs.declared.program.Dim.{Dim}
use Rattle.us_code.specs.declared.program.Buf.TheVariants as buf
use Rattle.us_code.specs.Plain.{Number, Code, End, Set, ◌+++◌}
use Rattle.us_code.specs.Run.{State, size_of}
use Rattle.us_code_laws.specs.Does.{Does}
use Rattle.us_gen.specs.Levels.{size_term}
use Rattle.us_running.specs.Running.{is_new, below, Table}
use Rattle.us_running.specs.Laws.{DoNotFall}
use Rattle.us_gen_build.specs.declared.levels.Role.{Role}
use Rattle.us_gen_build.specs.declared.levels.Role.TheVariants.{Full, Shared, Single, AtPosition, AtRank, Counted, Marked, Kept}
use Rattle.us_gen_build.specs.Levels.{LevelTree, opens}
use Rattle.us_gen_build.specs.Turns.{Turns, names_end, keys, shared_cells, cells_at, Counts, inside, costs}
use Rattle.us_gen_build.specs.Loops.{entry_loop, fill_up, at_top, LoopNeeds, AllZero}

-- behind the loop `pos` of a single position gets its end, and any other is filled up, with registers from n on
abbrev pub close_pos : Bool → LevelTree → ℕ → Code → Code
close_pos true l n rest = Set (buf.New l.first) (Number 1) (size_term l.crd_length) rest
close_pos false l n rest = fill_up l.first l.pos_length n +++ rest

abbrev pub close_of : Role → LevelTree → ℕ → Code → Code
close_of Full l n rest = rest
close_of Shared l n rest = close_pos l.is_top l n rest
close_of Single l n rest = close_pos l.is_top l n rest
close_of AtPosition l n rest = rest
close_of AtRank l n rest = rest
close_of Counted l n rest = rest
close_of Marked l n rest = close_pos l.is_top l n rest
close_of Kept l n rest = rest

abbrev pub closes : List LevelTree → ℕ → Code
closes [] n = End
closes (l ∷ ls) n = close_of l.role l n (closes ls (n + 3))

-- the registers of the levels, the loop, and the end of each `pos`
abbrev pub build_block : Dim → Option ℕ → List ℕ → List LevelTree → ℕ → ℕ → Code
build_block d order cols ls a n = opens ls (entry_loop d order cols ls a +++ closes ls n)

module _ (T : Turns) where
  -- the entries that begin a node
  abbrev pub begins : Role → LevelTree → (ℕ → ℕ) → ℕ → Bool
  begins Full l at x = false
  begins Shared l at x = is_new (keys T l at) x
  begins Single l at x = true
  begins AtPosition l at x = false
  begins AtRank l at x = false
  begins Counted l at x = false
  begins Marked l at x = true
  begins Kept l at x = false

  -- cell p of `pos`: how many nodes have a position below p above them
  abbrev pub pos_cell : Bool → LevelTree → (ℕ → Bool) → (ℕ → ℕ) → ℕ → ℤ
  pos_cell true l new at p = cond (nat_eq 1 p) (pos (size_of T.env l.crd_length)) (pos 0)
  pos_cell false l new at p = pos (below new at T.count p)

  abbrev pub HasPos : Role → LevelTree → (ℕ → ℕ) → State → Type 0
  HasPos r l at u = Table (u.bufs l.first) (size_of T.env l.pos_length) (pos_cell l.is_top l (begins r l at) at)

  abbrev pub HasCrd : LevelTree → (ℕ → ℤ) → State → Type 0
  HasCrd l f u = Table (u.bufs (l.first + 1)) (size_of T.env l.crd_length) f

  -- the buffers of a level, or its node that is counted, after all entries
  abbrev pub LevelBuilt : Role → LevelTree → (ℕ → ℕ) → State → Type 0
  LevelBuilt Full l at u = Unit {0}
  LevelBuilt Shared l at u = HasPos Shared l at u × HasCrd l (shared_cells T l at T.count) u
  LevelBuilt Single l at u = HasPos Single l at u × HasCrd l (cells_at T l (λ y. y) T.count) u
  LevelBuilt AtPosition l at u = HasCrd l (cells_at T l at T.count) u
  LevelBuilt AtRank l at u = HasCrd l (cells_at T l (λ y. y) T.count) u
  LevelBuilt Counted l at u = Counts T l at T.count u
  LevelBuilt Marked l at u = HasPos Marked l at u
  LevelBuilt Kept l at u = Unit {0}

  abbrev pub AllBuilt : List LevelTree → (ℕ → ℕ) → State → Type 0
  AllBuilt [] at u = Unit {0}
  AllBuilt (l ∷ ls) at u = LevelBuilt l.role l at u × AllBuilt ls (inside T l at) u

  -- a `pos` of a single position has two cells, and below others the positions don't fall
  pub record PosNeeds (l : LevelTree) (at : ℕ → ℕ) : Type 0 where
    pub two : l.is_top ≡ true → size_of T.env l.pos_length ≡ 2
    pub rises : l.is_top ≡ false → DoNotFall at T.count

  abbrev pub CloseNeeds : Role → LevelTree → (ℕ → ℕ) → Type 0
  CloseNeeds Full l at = Unit {0}
  CloseNeeds Shared l at = PosNeeds l at
  CloseNeeds Single l at = PosNeeds l at
  CloseNeeds AtPosition l at = Unit {0}
  CloseNeeds AtRank l at = Unit {0}
  CloseNeeds Counted l at = Unit {0}
  CloseNeeds Marked l at = PosNeeds l at
  CloseNeeds Kept l at = Unit {0}

  abbrev pub AllClose : List LevelTree → (ℕ → ℕ) → Type 0
  AllClose [] at = Unit {0}
  AllClose (l ∷ ls) at = CloseNeeds l.role l at × AllClose ls (inside T l at)

  abbrev pub pos_cost : Bool → LevelTree → ℕ
  pos_cost true l = 1
  pos_cost false l = 2 + 4 * size_of T.env l.pos_length

  abbrev pub close_cost : Role → LevelTree → ℕ
  close_cost Full l = 0
  close_cost Shared l = pos_cost l.is_top l
  close_cost Single l = pos_cost l.is_top l
  close_cost AtPosition l = 0
  close_cost AtRank l = 0
  close_cost Counted l = 0
  close_cost Marked l = pos_cost l.is_top l
  close_cost Kept l = 0

  abbrev pub close_costs : List LevelTree → ℕ
  close_costs [] = 0
  close_costs (l ∷ ls) = close_cost l.role l + close_costs ls

  -- from s to u the buffers of the levels were built, and no others changed
  pub record BlockBuilt (cols : List ℕ) (ls : List LevelTree) (s u : State) : Type 0 where
    pub built : AllBuilt ls at_top u
    pub bufs : (b : ℕ) → (T.base ≤ b → names_end T.base ls ≤ b) → u.bufs b ≡ s.bufs b
    pub steps : u.steps ≤ s.steps + 1 + 2 * length ls + T.count * (2 + length cols) + costs T ls at_top T.count + close_costs ls

-- from buffers of zeros the block builds those of the levels, at a stated cost
abbrev pub BlocksBuild : Type 0
BlocksBuild =
    (T : Turns) (d : Dim) (order : Option ℕ) (cols : List ℕ) (ls : List LevelTree) (place : ℕ → ℕ) (n : ℕ) (s : State)
    → LoopNeeds T d order cols ls place s → AllZero T.env ls s
    → AllClose T ls at_top → names_end T.base ls ≤ n → Does T.env (build_block d order cols ls T.turn n) s (BlockBuilt T cols ls s)
