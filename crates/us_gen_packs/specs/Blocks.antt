-- The block that builds the buffers of levels and packs, and what it leaves.
use Rattle.std.specs.Prelude.{◌≡◌, ℕ, ◌+◌, ◌*◌, ◌≤◌, List, [], ◌∷◌, length, pos, Option}
use Rattle.us_code.specs.declared.program.Dim.{Dim}
use Rattle.us_code.specs.Run.{Env, State, size_of}
use Rattle.us_code_laws.specs.Does.{Does}
use Rattle.us_running.specs.Running.{Table}
use Rattle.us_gen_build.specs.Levels.{LevelTree}
use Rattle.us_gen_build.specs.Turns.{Turns, names_end, costs}
use Rattle.us_gen_build.specs.Loops.{at_top, LoopNeeds, AllZero}
use Rattle.us_gen_build.specs.Blocks.{AllBuilt, AllClose, close_costs}
use Rattle.us_gen_packs.specs.Packs.{PackTree, width, packed_block}
use Rattle.us_gen_packs.specs.Turns.{last_at, packs_end, PacksNeed, PacksAfter, packs_cost}

-- new buffers of packs hold 0
abbrev pub PacksZero : Env → List PackTree → State → Type 0
PacksZero env [] u = Unit {0}
PacksZero env (w ∷ ws) u = Table (u.bufs w.first) (size_of env w.length * width w) (λ y. pos 0) × PacksZero env ws u

-- the first name behind those of the levels and of the packs
abbrev pub all_end : ℕ → List LevelTree → List PackTree → ℕ
all_end lo ls ws = packs_end (names_end lo ls) ws

-- what the packs need behind the levels
abbrev pub AllPack : Turns → List LevelTree → List PackTree → Type 0
AllPack T ls ws = PacksNeed T (names_end T.base ls) ws (last_at T ls at_top)

-- from s to u the buffers of the levels and of the packs were built, and no others changed
pub record PackedBuilt (T : Turns) (cols : List ℕ) (ls : List LevelTree) (ws : List PackTree) (s u : State) : Type 0 where
  pub built : AllBuilt T ls at_top u
  pub packs : PacksAfter T ws (last_at T ls at_top) T.count u
  pub bufs : (b : ℕ) → (T.base ≤ b → all_end T.base ls ws ≤ b) → u.bufs b ≡ s.bufs b
  pub steps :
      u.steps ≤ s.steps + 1 + 2 * length ls + T.count * (2 + length cols) + costs T ls at_top T.count + close_costs T ls + T.count * packs_cost ws

-- from buffers of zeros the block builds those of the levels and of the packs, at a stated cost
abbrev pub PackedBlocksBuild : Type 0
PackedBlocksBuild =
    (T : Turns) (d : Dim) (order : Option ℕ) (cols : List ℕ) (ls : List LevelTree) (ws : List PackTree) (place : ℕ → ℕ) (n : ℕ) (s : State)
    → LoopNeeds T d order cols ls place s → AllZero T.env ls s → AllClose T ls at_top
    → AllPack T ls ws → PacksZero T.env ws s → all_end T.base ls ws ≤ n → Does T.env (packed_block d order cols ls ws T.turn n) s (PackedBuilt T cols ls ws s)
