-- The new buffers of packs, and that they hold zeros.
use Rattle.std.specs.Prelude.{◌≡◌, ℕ, ◌*◌, ◌≤◌, true, List, [], ◌∷◌, length, None}
use Rattle.us_code.specs.declared.program.Dim.TheVariants as dim
use Rattle.us_code.specs.declared.program.Make.{Make}
use Rattle.us_code.specs.Plain.{LineTree, Product}
use Rattle.us_code.specs.Run.{Env, size_of}
use Rattle.us_code.specs.Runs.{World, begin}
use Rattle.us_code.specs.Typing.{Context, sees_dim, TypedMakes}
use Rattle.us_gen.specs.Goes.{Makes}
use Rattle.us_gen_build.specs.Making.{words}
use Rattle.us_gen_packs.specs.Packs.{PackTree, width}
use Rattle.us_gen_packs.specs.Blocks.{PacksZero}
use Rattle.us_gen_packs.specs.Kinds.{PackNamesRise}

abbrev pub pack_makes : List PackTree → List Make
pack_makes [] = []
pack_makes (w ∷ ws) = words w.first (dim.Name w.cells) ∷ pack_makes ws

-- the dim of a pack's cells: its positions times its columns
abbrev pub pack_line : PackTree → LineTree
pack_line w = Product w.cells w.length (dim.Number (width w))

-- the dims are as long as the packs, and at most the limit
abbrev pub PacksSmall : Env → List PackTree → Type 0
PacksSmall env [] = Unit {0}
PacksSmall env (w ∷ ws) = (env.dims w.cells ≡ size_of env w.length * width w) × (env.dims w.cells ≤ 67108865) × PacksSmall env ws

-- from w to u the buffers of the packs were made, of zeros
pub record PacksMade (lo n : ℕ) (ws : List PackTree) (w u : World) : Type 0 where
  pub env : u.env ≡ w.env
  pub bufs : (b : ℕ) → (lo ≤ b → n ≤ b) → u.bufs b ≡ w.bufs b
  pub zero : PacksZero w.env ws (begin u)

-- the `new` lines of the packs take a step each
abbrev pub PacksAreZero : Type 0
PacksAreZero =
    (lo n : ℕ) (ws : List PackTree) (w : World)
    → PackNamesRise lo ws n → PacksSmall w.env ws → (u : World) × Makes lo (length ws) (pack_makes ws) w u × PacksMade lo n ws w u

abbrev pub PacksSeen : Context → List PackTree → Type 0
PacksSeen g [] = Unit {0}
PacksSeen g (w ∷ ws) = (sees_dim g (dim.Name w.cells) ≡ true) × PacksSeen g ws

-- the `new` lines keep the rules where the dims are visible, and no buffer of the packs is
abbrev pub PackMakesTyped : Type 0
PackMakesTyped =
    (g : Context) (lo n : ℕ) (ws : List PackTree) → PackNamesRise lo ws n → ((b : ℕ) → lo ≤ b → g.bufs b ≡ None) → PacksSeen g ws → TypedMakes g (pack_makes ws)
