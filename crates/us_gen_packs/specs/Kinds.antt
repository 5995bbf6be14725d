-- Which blocks keep the rules.
use Rattle.std.specs.Prelude.{◌≡◌, ℕ, ◌+◌, ◌^◌, ◌<◌, ◌≤◌, true, List, [], ◌∷◌, Option, Some}
use Rattle.us_code.specs.declared.program.Dim.{Dim}
use Rattle.us_code.specs.declared.program.Dim.TheVariants as dim
use Rattle.us_code.specs.declared.program.CellKind.TheVariants as kind
use Rattle.us_code.specs.Plain.{TermTree}
use Rattle.us_code.specs.Typing.{Context, Product, fits, fine, sees_dim, Typed}
use Rattle.us_gen.specs.Rooms.{FreshFrom}
use Rattle.us_gen_build.specs.Levels.{LevelTree}
use Rattle.us_gen_build.specs.Loops.{levels_from}
use Rattle.us_gen_build.specs.Kinds.{words_of, in_turn, OrderFits, ColumnsFit, AllFit, NamesRise}
use Rattle.us_gen_packs.specs.Packs.{PackTree, width, packed_block}

abbrev pub AllFine : Context → List TermTree → Type 0
AllFine g [] = Unit {0}
AllFine g (e ∷ es) = (fine g e ≡ true) × AllFine g es

-- words, whose length is the product of the positions and the columns, and where the place is the turn it is below the positions
pub record PackFits (g h : Context) (d : Dim) (w : PackTree) : Type 0 where
  pub sees : sees_dim g w.length ≡ true
  pub buffer : g.bufs w.first ≡ words_of (dim.Name w.cells)
  pub product : g.dims w.cells ≡ Some (Product w.length (dim.Number (width w)))
  pub few : width w < 2 ^ 32
  pub turn : w.at_rank ≡ true → fits (kind.Below d) w.length ≡ true
  pub columns : AllFine h w.columns

abbrev pub PacksFit : Context → Context → Dim → List PackTree → Type 0
PacksFit g h d [] = Unit {0}
PacksFit g h d (w ∷ ws) = PackFits g h d w × PacksFit g h d ws

-- the names of the packs rise from lo to n
abbrev pub PackNamesRise : ℕ → List PackTree → ℕ → Type 0
PackNamesRise lo [] n = lo ≤ n
PackNamesRise lo (w ∷ ws) n = (lo ≤ w.first) × PackNamesRise (w.first + 1) ws n

-- the block keeps the rules where no register of its own is visible
abbrev pub PackedBlocksTyped : Type 0
PackedBlocksTyped =
    (g : Context) (d : Dim) (order : Option ℕ) (cols : List ℕ) (ls : List LevelTree) (ws : List PackTree) (a m n : ℕ)
    → FreshFrom g a → sees_dim g d ≡ true → OrderFits g.bufs d order → ColumnsFit g.bufs d cols
    → NamesRise (levels_from order cols a) ls m → PackNamesRise m ws n
    → AllFit g (in_turn g d order cols a) d ls → PacksFit g (in_turn g d order cols a) d ws → Typed g (packed_block d order cols ls ws a n)
