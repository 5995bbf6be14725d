-- Packs, and the loop that fills them behind its levels.
use Rattle.std.specs.Prelude.{ℕ, ◌+◌, ◌<◌, ◌^◌, Bool, true, false, List, [], ◌∷◌, length, map, Option}
use Rattle.us_code.specs.declared.program.Dim.{Dim}
use Rattle.us_code.specs.declared.program.Buf.TheVariants as buf
use Rattle.us_code.specs.declared.program.Term.{Term}
use Rattle.us_code.specs.Plain.{TermTree, Number, Reg, Flat, Code, End, Set, For, When, ◌+++◌, term_tree}
use Rattle.us_gen_build.specs.Levels.{LevelTree, below_of, levels, opens}
use Rattle.us_gen_build.specs.Loops.{loads, entry_of, picked}
use Rattle.us_gen_build.specs.Blocks.{closes}
use Rattle.us_gen_packs.specs.declared.packs.PackWriter.{PackWriter}

-- a pack: the name of its buffer and of a register, the dim of its cells, that of its positions, and the number that each column gets
pub record PackTree : Type 0 where
  pub first : ℕ
  pub cells : ℕ
  pub length : Dim
  pub at_rank : Bool
  pub columns : List TermTree

abbrev pub trees : List Term → List TermTree
trees es = map term_tree es

abbrev pub pack_tree : PackWriter → PackTree
pack_tree w = record { first = w.first; cells = w.cells; length = w.length; at_rank = w.at_rank; columns = trees w.columns }

abbrev pub pack_trees : List PackWriter → List PackTree
pack_trees [] = []
pack_trees (w ∷ ws) = pack_tree w ∷ pack_trees ws

-- how many columns a pack interleaves
abbrev pub width : PackTree → ℕ
width w = length w.columns

-- the name of each pack is a number of 32 bits, and it has fewer than 2 ^ 32 columns
abbrev pub HavePlaces : List PackWriter → Type 0
HavePlaces [] = Unit {0}
HavePlaces (w ∷ ws) = (w.first + 1 < 2 ^ 32) × (length w.columns < 2 ^ 32) × HavePlaces ws

-- the cells of the columns from y on, at place p of the pack whose buffer is b and whose cells are below dim d
abbrev pub cells_from : ℕ → ℕ → TermTree → ℕ → List TermTree → Code → Code
cells_from b d p y [] rest = rest
cells_from b d p y (e ∷ es) rest = Set (buf.New b) (Flat d p (Number y)) e (cells_from b d p (y + 1) es rest)

-- the cells of a pack at position q, or at the turn in register x
abbrev pub write : Bool → PackTree → TermTree → ℕ → Code → Code
write true w q x rest = cells_from w.first w.cells (Reg x) 0 w.columns rest
write false w q x rest = When q w.length w.first (cells_from w.first w.cells (Reg w.first) 0 w.columns End) false End rest

abbrev pub packs : List PackTree → TermTree → ℕ → Code
packs [] q x = End
packs (w ∷ ws) q x = write w.at_rank w q x (packs ws q x)

-- the position behind levels that stand under position q
abbrev pub last_of : List LevelTree → TermTree → ℕ → TermTree
last_of [] q x = q
last_of (l ∷ ls) q x = last_of ls (below_of l.role l q x) x

-- a turn of the loop over d entries: the cells of the columns at the entry, the levels, and the packs at the last position
abbrev pub packed_turn : Option ℕ → List ℕ → List LevelTree → List PackTree → ℕ → Code
packed_turn order cols ls ws a =
    picked order a (loads cols (entry_of order a + 1) (entry_of order a) (levels ls (Number 0) a +++ packs ws (last_of ls (Number 0) a) a))

abbrev pub packed_loop : Dim → Option ℕ → List ℕ → List LevelTree → List PackTree → ℕ → Code
packed_loop d order cols ls ws a = For a d (packed_turn order cols ls ws a) End

-- the registers of the levels, the loop, and the end of each `pos`
abbrev pub packed_block : Dim → Option ℕ → List ℕ → List LevelTree → List PackTree → ℕ → ℕ → Code
packed_block d order cols ls ws a n = opens ls (packed_loop d order cols ls ws a +++ closes ls n)
