-- What the loop over the entries does at each level.
use Rattle.std.specs.Prelude.{ℕ, ◌+◌, ◌<◌, ◌^◌, Bool, true, false, cond, List, [], ◌∷◌}
use Rattle.us_code.specs.declared.program.Dim.{Dim}
use Rattle.us_code.specs.declared.program.Buf.TheVariants as buf
use Rattle.us_code.specs.Plain.{TermTree, Number, Reg, Add, Sub, Mul, Code, End, Load, Var, Put, Set, For, If, When, term_tree}
use Rattle.us_gen.specs.Nest.{is_origin}
use Rattle.us_gen_build.specs.declared.levels.Role.{Role}
use Rattle.us_gen_build.specs.declared.levels.Role.TheVariants.{Full, Shared, Single, AtPosition, AtRank, Counted, Marked, Kept}
use Rattle.us_gen_build.specs.declared.levels.BuildLevel.{BuildLevel}

-- a level and its names: the registers `first` to `first + 3`, and the buffers `first` (pos) and `first + 1` (crd)
pub record LevelTree : Type 0 where
  pub role : Role
  pub is_top : Bool
  pub first : ℕ
  pub size : TermTree
  pub coord : TermTree
  pub pos_length : Dim
  pub crd_length : Dim

abbrev pub level_tree : BuildLevel → LevelTree
level_tree l = record {
  role = l.role;
  is_top = l.is_top;
  first = l.first;
  size = term_tree l.size;
  coord = term_tree l.coord;
  pos_length = l.pos_length;
  crd_length = l.crd_length;
}

abbrev pub level_trees : List BuildLevel → List LevelTree
level_trees [] = []
level_trees (l ∷ ls) = level_tree l ∷ level_trees ls

-- the names of each level are numbers of 32 bits
abbrev pub HaveNames : List BuildLevel → Type 0
HaveNames [] = Unit {0}
HaveNames (l ∷ ls) = (l.first + 4 < 2 ^ 32) × HaveNames ls

-- the position of a coordinate under position q, at a level of this size
abbrev pub under : TermTree → TermTree → TermTree → TermTree
under q size c = cond (is_origin q) c (Add (Mul q size) c)

-- one more than a register
abbrev pub one_more : ℕ → TermTree
one_more r = Add (Reg r) (Number 1)

-- the cell of `pos` behind position q gets the number t, if the level has more than one position above
abbrev pub mark : Bool → LevelTree → TermTree → TermTree → Code → Code
mark true l q t rest = rest
mark false l q t rest = When (Add q (Number 1)) l.pos_length (l.first + 2) (Set (buf.New l.first) (Reg (l.first + 2)) t End) false End rest

-- the cell of `crd` at place p gets the coordinate
abbrev pub cell_at : LevelTree → TermTree → Code → Code
cell_at l p rest = When p l.crd_length (l.first + 3) (Set (buf.New (l.first + 1)) (Reg (l.first + 3)) l.coord End) false End rest

-- the key and the node become those of a new node
abbrev pub new_node : LevelTree → TermTree → Code → Code
new_node l q rest = Put l.first (under q l.size l.coord) (Put (l.first + 1) (one_more (l.first + 1)) rest)

-- nothing if the key is that of the entry before
abbrev pub if_new : LevelTree → TermTree → Code → Code → Code
if_new l q made rest = If (under q l.size l.coord) true (Reg l.first) End true made rest

-- the block of a level under position q, and what stands behind it, where the turn is in register x
abbrev pub block_of : Role → LevelTree → TermTree → ℕ → Code → Code
block_of Full l q x rest = rest
block_of Shared l q x rest = if_new l q (new_node l q (mark l.is_top l q (one_more (l.first + 1)) (cell_at l (Reg (l.first + 1)) End))) rest
block_of Single l q x rest = mark l.is_top l q (one_more x) (Set (buf.New (l.first + 1)) (Reg x) l.coord rest)
block_of AtPosition l q x rest = cell_at l q rest
block_of AtRank l q x rest = Set (buf.New (l.first + 1)) (Reg x) l.coord rest
block_of Counted l q x rest = if_new l q (new_node l q End) rest
block_of Marked l q x rest = mark l.is_top l q (one_more x) rest
block_of Kept l q x rest = rest

-- the position here
abbrev pub below_of : Role → LevelTree → TermTree → ℕ → TermTree
below_of Full l q x = under q l.size l.coord
below_of Shared l q x = Reg (l.first + 1)
below_of Single l q x = Reg x
below_of AtPosition l q x = q
below_of AtRank l q x = q
below_of Counted l q x = Reg (l.first + 1)
below_of Marked l q x = Reg x
below_of Kept l q x = q

-- the levels, one inside the other
abbrev pub levels : List LevelTree → TermTree → ℕ → Code
levels [] q x = End
levels (l ∷ ls) q x = block_of l.role l q x (levels ls (below_of l.role l q x) x)

-- the registers of the levels in front of the loop: no key and no node yet
abbrev pub minus_one : TermTree
minus_one = Sub (Number 0) (Number 1)

abbrev pub no_node : LevelTree → Code → Code
no_node l rest = Var l.first minus_one (Var (l.first + 1) minus_one rest)

abbrev pub open_of : Role → LevelTree → Code → Code
open_of Full l rest = rest
open_of Shared l rest = no_node l rest
open_of Single l rest = rest
open_of AtPosition l rest = rest
open_of AtRank l rest = rest
open_of Counted l rest = no_node l rest
open_of Marked l rest = rest
open_of Kept l rest = rest

abbrev pub opens : List LevelTree → Code → Code
opens [] rest = rest
opens (l ∷ ls) rest = open_of l.role l (opens ls rest)
