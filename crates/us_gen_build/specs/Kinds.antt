-- Which blocks keep the rules.
use Rattle.std.specs.Prelude.{◌≡◌, ℕ, ◌+◌, ◌≤◌, Bool, true, false, List, [], ◌∷◌, Option, Some, None}
use Rattle.us_code.specs.declared.program.Dim.{Dim}
use Rattle.us_code.specs.declared.program.Dim.TheVariants as dim
use Rattle.us_code.specs.declared.program.CellKind.TheVariants as kind
use Rattle.us_code.specs.Run.{put}
use Rattle.us_code.specs.Typing.{Context, RegKind, BufKind, is_some, buf_len, buf_cell, fits, fine, sees_dim, Typed}
use Rattle.us_gen.specs.Rooms.{FreshFrom}
use Rattle.us_gen_build.specs.declared.levels.Role.{Role}
use Rattle.us_gen_build.specs.declared.levels.Role.TheVariants.{Full, Shared, Single, AtPosition, AtRank, Counted, Marked, Kept}
use Rattle.us_gen_build.specs.Levels.{LevelTree}
use Rattle.us_gen_build.specs.Loops.{entry_of, levels_from}
use Rattle.us_gen_build.specs.Blocks.{build_block}

-- a register that may change, a register of a kind, and a buffer of words
abbrev pub word : Option RegKind
word = Some record { is_var = true; kind = kind.Word }

abbrev pub below_dim : Dim → Option RegKind
below_dim d = Some record { is_var = false; kind = kind.Below d }

abbrev pub words_of : Dim → Option BufKind
words_of d = Some record { len = d; cell = kind.Word }

abbrev pub with_regs : Context → (ℕ → Option RegKind) → Context
with_regs g f = record { sources = g.sources; regs = f; bufs = g.bufs; dims = g.dims }

-- the registers behind the opening
abbrev pub node_kinds : LevelTree → (ℕ → Option RegKind) → ℕ → Option RegKind
node_kinds l f = put (put f l.first word) (l.first + 1) word

abbrev pub open_kind : Role → LevelTree → (ℕ → Option RegKind) → ℕ → Option RegKind
open_kind Full l f = f
open_kind Shared l f = node_kinds l f
open_kind Single l f = f
open_kind AtPosition l f = f
open_kind AtRank l f = f
open_kind Counted l f = node_kinds l f
open_kind Marked l f = f
open_kind Kept l f = f

abbrev pub open_kinds : List LevelTree → (ℕ → Option RegKind) → ℕ → Option RegKind
open_kinds [] f = f
open_kinds (l ∷ ls) f = open_kinds ls (open_kind l.role l f)

abbrev pub opened : Context → List LevelTree → Context
opened g ls = with_regs g (open_kinds ls g.regs)

-- the registers at a turn of the loop over d entries, behind the loads
abbrev pub load_kinds : (ℕ → Option BufKind) → List ℕ → ℕ → (ℕ → Option RegKind) → ℕ → Option RegKind
load_kinds bufs [] k f = f
load_kinds bufs (b ∷ bs) k f = load_kinds bufs bs (k + 1) (put f k (Some record { is_var = false; kind = buf_cell (bufs b) }))

abbrev pub turn_kinds : Option ℕ → Dim → ℕ → (ℕ → Option RegKind) → ℕ → Option RegKind
turn_kinds None d a f = put f a (below_dim d)
turn_kinds (Some p) d a f = put (put f a (below_dim d)) (a + 1) (below_dim d)

abbrev pub in_turn : Context → Dim → Option ℕ → List ℕ → ℕ → Context
in_turn g d order cols a = with_regs g (load_kinds g.bufs cols (entry_of order a + 1) (turn_kinds order d a g.regs))

-- an order of d places below d, and columns of d cells
abbrev pub OrderFits : (ℕ → Option BufKind) → Dim → Option ℕ → Type 0
OrderFits bufs d None = Unit {0}
OrderFits bufs d (Some p) = bufs p ≡ Some record { len = d; cell = kind.Below d }

abbrev pub ColumnsFit : (ℕ → Option BufKind) → Dim → List ℕ → Type 0
ColumnsFit bufs d [] = Unit {0}
ColumnsFit bufs d (b ∷ bs) = (is_some (bufs b) ≡ true) × (buf_len (bufs b) ≡ d) × ColumnsFit bufs d bs

-- `pos` and `crd` are words of their lengths, and where the place is the turn it is below the length of `crd`
pub record PosFits (g : Context) (l : LevelTree) : Type 0 where
  pub sees : sees_dim g l.pos_length ≡ true
  pub buffer : g.bufs l.first ≡ words_of l.pos_length
  pub two : l.is_top ≡ true → l.pos_length ≡ dim.Number 2

pub record CrdFits (g : Context) (l : LevelTree) : Type 0 where
  pub sees : sees_dim g l.crd_length ≡ true
  pub buffer : g.bufs (l.first + 1) ≡ words_of l.crd_length

abbrev pub LevelFits : Context → Dim → Role → LevelTree → Type 0
LevelFits g d Full l = Unit {0}
LevelFits g d Shared l = PosFits g l × CrdFits g l
LevelFits g d Single l = PosFits g l × CrdFits g l × (fits (kind.Below d) l.crd_length ≡ true)
LevelFits g d AtPosition l = CrdFits g l
LevelFits g d AtRank l = CrdFits g l × (fits (kind.Below d) l.crd_length ≡ true)
LevelFits g d Counted l = Unit {0}
LevelFits g d Marked l = PosFits g l × (sees_dim g l.crd_length ≡ true)
LevelFits g d Kept l = Unit {0}

-- the terms of the levels are fine where the registers of a turn are visible
abbrev pub AllFit : Context → Context → Dim → List LevelTree → Type 0
AllFit g h d [] = Unit {0}
AllFit g h d (l ∷ ls) = LevelFits g d l.role l × (fine h l.size ≡ true) × (fine h l.coord ≡ true) × AllFit g h d ls

-- the names of the levels rise from lo to n
abbrev pub NamesRise : ℕ → List LevelTree → ℕ → Type 0
NamesRise lo [] n = lo ≤ n
NamesRise lo (l ∷ ls) n = (lo ≤ l.first) × NamesRise (l.first + 4) ls n

-- the block keeps the rules where no register of its own is visible
abbrev pub BlocksTyped : Type 0
BlocksTyped =
    (g : Context) (d : Dim) (order : Option ℕ) (cols : List ℕ) (ls : List LevelTree) (a n : ℕ)
    → FreshFrom g a → sees_dim g d ≡ true → OrderFits g.bufs d order → ColumnsFit g.bufs d cols
    → NamesRise (levels_from order cols a) ls n → AllFit g (in_turn g d order cols a) d ls → Typed g (build_block d order cols ls a n)
