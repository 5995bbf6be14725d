-- The new buffers of levels, and that they hold zeros.
use Rattle.std.specs.Prelude.{◌≡◌, ℕ, ◌+◌, ◌*◌, ◌≤◌, true, List, [], ◌∷◌, length, None}
use Rattle.us_code.specs.declared.program.Dim.{Dim}
use Rattle.us_code.specs.declared.program.CellKind.TheVariants as kind
use Rattle.us_code.specs.declared.program.Make.{Make}
use Rattle.us_code.specs.Run.{Env, size_of}
use Rattle.us_code.specs.Runs.{World, begin}
use Rattle.us_code.specs.Typing.{Context, sees_dim, TypedMakes, with_bufs}
use Rattle.us_gen.specs.Goes.{Makes}
use Rattle.us_gen_build.specs.declared.levels.Role.{Role}
use Rattle.us_gen_build.specs.declared.levels.Role.TheVariants.{Full, Shared, Single, AtPosition, AtRank, Counted, Marked, Kept}
use Rattle.us_gen_build.specs.Levels.{LevelTree}
use Rattle.us_gen_build.specs.Loops.{AllZero}
use Rattle.us_gen_build.specs.Kinds.{words_of, NamesRise}

-- a new buffer of words
abbrev pub words : ℕ → Dim → Make
words b d = record { buf = b; len = d; cell = kind.Word }

-- `pos` and `crd` of a level
abbrev pub makes_of : Role → LevelTree → List Make → List Make
makes_of Full l rest = rest
makes_of Shared l rest = words l.first l.pos_length ∷ words (l.first + 1) l.crd_length ∷ rest
makes_of Single l rest = words l.first l.pos_length ∷ words (l.first + 1) l.crd_length ∷ rest
makes_of AtPosition l rest = words (l.first + 1) l.crd_length ∷ rest
makes_of AtRank l rest = words (l.first + 1) l.crd_length ∷ rest
makes_of Counted l rest = rest
makes_of Marked l rest = words l.first l.pos_length ∷ rest
makes_of Kept l rest = rest

abbrev pub makes : List LevelTree → List Make
makes [] = []
makes (l ∷ ls) = makes_of l.role l (makes ls)

-- the lengths are at most the limit
abbrev pub SmallOf : Env → Role → LevelTree → Type 0
SmallOf env Full l = Unit {0}
SmallOf env Shared l = (size_of env l.pos_length ≤ 67108865) × (size_of env l.crd_length ≤ 67108865)
SmallOf env Single l = (size_of env l.pos_length ≤ 67108865) × (size_of env l.crd_length ≤ 67108865)
SmallOf env AtPosition l = size_of env l.crd_length ≤ 67108865
SmallOf env AtRank l = size_of env l.crd_length ≤ 67108865
SmallOf env Counted l = Unit {0}
SmallOf env Marked l = size_of env l.pos_length ≤ 67108865
SmallOf env Kept l = Unit {0}

abbrev pub AllSmall : Env → List LevelTree → Type 0
AllSmall env [] = Unit {0}
AllSmall env (l ∷ ls) = SmallOf env l.role l × AllSmall env ls

-- from w to u the buffers of the levels were made, of zeros
pub record Made (lo n : ℕ) (ls : List LevelTree) (w u : World) : Type 0 where
  pub env : u.env ≡ w.env
  pub bufs : (b : ℕ) → (lo ≤ b → n ≤ b) → u.bufs b ≡ w.bufs b
  pub zero : AllZero w.env ls (begin u)

-- the `new` lines of the levels take at most two steps a level
abbrev pub BuffersAreZero : Type 0
BuffersAreZero =
    (lo n : ℕ) (ls : List LevelTree) (w : World)
    → NamesRise lo ls n → AllSmall w.env ls → (u : World) × Makes lo (2 * length ls) (makes ls) w u × Made lo n ls w u

-- which buffers of a level are visible
abbrev pub SeesOf : Context → Role → LevelTree → Type 0
SeesOf g Full l = Unit {0}
SeesOf g Shared l = (sees_dim g l.pos_length ≡ true) × (sees_dim g l.crd_length ≡ true)
SeesOf g Single l = (sees_dim g l.pos_length ≡ true) × (sees_dim g l.crd_length ≡ true)
SeesOf g AtPosition l = sees_dim g l.crd_length ≡ true
SeesOf g AtRank l = sees_dim g l.crd_length ≡ true
SeesOf g Counted l = Unit {0}
SeesOf g Marked l = sees_dim g l.pos_length ≡ true
SeesOf g Kept l = Unit {0}

abbrev pub AllSeen : Context → List LevelTree → Type 0
AllSeen g [] = Unit {0}
AllSeen g (l ∷ ls) = SeesOf g l.role l × AllSeen g ls

-- the `new` lines keep the rules where the lengths are visible, and no buffer of the levels is
abbrev pub MakesTyped : Type 0
MakesTyped = (g : Context) (lo n : ℕ) (ls : List LevelTree) → NamesRise lo ls n → ((b : ℕ) → lo ≤ b → g.bufs b ≡ None) → AllSeen g ls → TypedMakes g (makes ls)
