-- Nests of levels keep the limits.
use Rattle.std.specs.Prelude.{◌≡◌, ℕ, ◌+◌, ◌*◌, ◌^◌, ◌<◌, ◌≤◌, false, List, [], ◌∷◌, length}
use Rattle.us_code.specs.Plain.{TermTree, Code}
use Rattle.us_code.specs.Limits.{FitsDim}
use Rattle.us_gen.specs.declared.nests.Level.{Level}
use Rattle.us_gen.specs.declared.nests.Level.TheVariants.{Full, Nodes, Crd, Cell, Packed}
use Rattle.us_gen.specs.Levels.{names, nest, position_in}
use Rattle.us_limits.specs.Small.{SmallTerm, Small}
use Rattle.us_limits.specs.Orders.{has_order}

-- the sources, dims and numbers of a level fit
abbrev pub FitsLevel : Level → Type 0
FitsLevel (Full size) = FitsDim size
FitsLevel (Nodes k more nodes) = (k < 2 ^ 32) × FitsDim more × FitsDim nodes
FitsLevel (Crd k) = Unit {0}
FitsLevel (Cell k) = k < 2 ^ 32
FitsLevel (Packed k w digit) = (k < 2 ^ 32) × (w < 2 ^ 63) × (digit < 2 ^ 63)

abbrev pub FitLevels : List Level → Type 0
FitLevels [] = Unit {0}
FitLevels (l ∷ ls) = FitsLevel l × FitLevels ls

-- how many statements, and how many blocks in each other
abbrev pub names_of : List Level → ℕ
names_of [] = 0
names_of (l ∷ ls) = names l + names_of ls

abbrev pub blocks : Level → ℕ
blocks (Full size) = 1
blocks (Nodes k more nodes) = 5
blocks (Crd k) = 0
blocks (Cell k) = 1
blocks (Packed k w digit) = 1

abbrev pub blocks_of : List Level → ℕ
blocks_of [] = 0
blocks_of (l ∷ ls) = blocks l + blocks_of ls

-- around a block, under a position of at most m nodes; each level makes the position at most four nodes longer
pub record NestsKeepLimits : Type 0 where
  pub small :
      (ls : List Level) (m n d r : ℕ) (q : TermTree) (inner : Code) → FitLevels ls → SmallTerm m q → m + 4 * length ls ≤ 64 → 1 ≤ d
      → Small n d inner → Small (names_of ls + n) (blocks_of ls + d) (nest ls q r inner)
  pub positions : (ls : List Level) (m r : ℕ) (q : TermTree) → FitLevels ls → SmallTerm m q → SmallTerm (m + 4 * length ls) (position_in ls q r)
  pub orders : (ls : List Level) (r : ℕ) (q : TermTree) (inner : Code) → has_order inner ≡ false → has_order (nest ls q r inner) ≡ false
