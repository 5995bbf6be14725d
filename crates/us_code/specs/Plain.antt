-- Code as plain trees: no boxes, no vectors. A block is a chain of statements.
use Rattle.std.specs.Prelude.{ℕ, List, [], ◌∷◌, map, Bool, true, false, Option, Some, None}
use Rattle.us_code.specs.declared.program.Dim.{Dim}
use Rattle.us_code.specs.declared.program.Buf.{Buf}
use Rattle.us_code.specs.declared.program.Term.{Term}
use Rattle.us_code.specs.declared.program.Term.TheVariants as term
use Rattle.us_code.specs.declared.program.Stmt.{Stmt, Row_of-Stmt, end_of-Stmt, more_of-Stmt, Held-Stmt-If-4, None', Some'}
use Rattle.us_code.specs.declared.program.Stmt.TheVariants as stmt
use Rattle.us_code.specs.declared.program.Block.{Block}
use Rattle.us_code.specs.declared.program.Make.{Make}
use Rattle.us_code.specs.declared.program.DimLine.{DimLine}
use Rattle.us_code.specs.declared.program.DimLine.TheVariants as line
use Rattle.us_code.specs.declared.program.Phase.{Phase}
use Rattle.us_code.specs.declared.program.Program.{Program}

-- a term
pub data TermTree : Type 0 where
  Number : (n : ℕ) → TermTree
  Reg : (r : ℕ) → TermTree
  Size : (d : Dim) → TermTree
  Flat : (d : ℕ) → (p c : TermTree) → TermTree
  Next : (d : ℕ) → (x : TermTree) → TermTree
  Up : (d : ℕ) → (x : TermTree) → TermTree
  Add : (a b : TermTree) → TermTree
  Sub : (a b : TermTree) → TermTree
  Mul : (a b : TermTree) → TermTree
  Div : (a : TermTree) → (k : ℕ) → TermTree
  Rem : (a : TermTree) → (k : ℕ) → TermTree

-- a block: each statement with those after it. `given` says whether an else was written
pub data Code : Type 0 where
  End : Code
  Let : (r : ℕ) → (e : TermTree) → (rest : Code) → Code
  Load : (r : ℕ) → (b : Buf) → (at : TermTree) → (rest : Code) → Code
  Var : (r : ℕ) → (e : TermTree) → (rest : Code) → Code
  Put : (r : ℕ) → (e : TermTree) → (rest : Code) → Code
  Set : (b : Buf) → (at e : TermTree) → (rest : Code) → Code
  For : (r : ℕ) → (below : Dim) → (body rest : Code) → Code
  Span : (r : ℕ) → (first end : TermTree) → (below : Dim) → (body rest : Code) → Code
  If : (l : TermTree) → (equal : Bool) → (r : TermTree) → (body : Code) → (given : Bool) → (other rest : Code) → Code
  When : (e : TermTree) → (below : Dim) → (r : ℕ) → (body : Code) → (given : Bool) → (other rest : Code) → Code
  Order : (b : Buf) → (keys : List Buf) → (rest : Code) → Code

abbrev pub term_tree : Term → TermTree
term_tree (term.Number n) = Number n
term_tree (term.Reg r) = Reg r
term_tree (term.Size d) = Size d
term_tree (term.Flat' d p x q y) = Flat d (term_tree x) (term_tree y)
term_tree (term.Next' d p x) = Next d (term_tree x)
term_tree (term.Up' d p x) = Up d (term_tree x)
term_tree (term.Add' p x q y) = Add (term_tree x) (term_tree y)
term_tree (term.Sub' p x q y) = Sub (term_tree x) (term_tree y)
term_tree (term.Mul' p x q y) = Mul (term_tree x) (term_tree y)
term_tree (term.Div' p x k) = Div (term_tree x) k
term_tree (term.Rem' p x k) = Rem (term_tree x) k

abbrev pub has_other : Held-Stmt-If-4 → Bool
has_other None' = false
has_other (Some' shape row) = true

unfoldable mutual
  -- a statement before those after it
  pub plain_stmt : Stmt → Code → Code
  plain_stmt (stmt.Let r e) rest = Let r (term_tree e) rest
  plain_stmt (stmt.Load r b at) rest = Load r b (term_tree at) rest
  plain_stmt (stmt.Var r e) rest = Var r (term_tree e) rest
  plain_stmt (stmt.Put r e) rest = Put r (term_tree e) rest
  plain_stmt (stmt.Set b at e) rest = Set b (term_tree at) (term_tree e) rest
  plain_stmt (stmt.For' r d shape body) rest = For r d (plain_row body) rest
  plain_stmt (stmt.Span' r a b d shape body) rest = Span r (term_tree a) (term_tree b) d (plain_row body) rest
  plain_stmt (stmt.If' l eq r shape body other) rest = If (term_tree l) eq (term_tree r) (plain_row body) (has_other other) (plain_held other) rest
  plain_stmt (stmt.When' e d r shape body other) rest = When (term_tree e) d r (plain_row body) (has_other other) (plain_held other) rest
  plain_stmt (stmt.Order b keys) rest = Order b keys rest

  pub plain_row : {n : _} → Row_of-Stmt n → Code
  plain_row end_of-Stmt = End
  plain_row (more_of-Stmt s rest) = plain_stmt s (plain_row rest)

  pub plain_held : Held-Stmt-If-4 → Code
  plain_held None' = End
  plain_held (Some' shape body) = plain_row body

-- one block after another
infixl 30 ◌+++◌
abbrev pub ◌+++◌ : Code → Code → Code
End +++ c = c
(Let r e rest) +++ c = Let r e (rest +++ c)
(Load r b at rest) +++ c = Load r b at (rest +++ c)
(Var r e rest) +++ c = Var r e (rest +++ c)
(Put r e rest) +++ c = Put r e (rest +++ c)
(Set b at e rest) +++ c = Set b at e (rest +++ c)
(For r d body rest) +++ c = For r d body (rest +++ c)
(Span r a b d body rest) +++ c = Span r a b d body (rest +++ c)
(If l eq r body given other rest) +++ c = If l eq r body given other (rest +++ c)
(When e d r body given other rest) +++ c = When e d r body given other (rest +++ c)
(Order b keys rest) +++ c = Order b keys (rest +++ c)

unfoldable pub plain_list : List Stmt → Code
plain_list [] = End
plain_list (s ∷ ss) = plain_stmt s (plain_list ss)

-- the plain tree of a block
unfoldable pub tree_of : Block → Code
tree_of b = plain_list b.stmts

-- a statement alone
unfoldable pub alone : Stmt → Code
alone s = plain_stmt s End

-- a dim line
pub data LineTree : Type 0 where
  Of : (d : ℕ) → (e : TermTree) → LineTree
  Product : (d : ℕ) → (left right : Dim) → LineTree
  Successor : (d : ℕ) → (of : Dim) → LineTree

abbrev pub line_tree : DimLine → LineTree
line_tree (line.Of d e) = Of d (term_tree e)
line_tree (line.Product d left right) = Product d left right
line_tree (line.Next d of) = Successor d of

pub record PhaseTree : Type 0 where
  pub makes : List Make
  pub body : Code
  pub lines : List LineTree

abbrev pub phase_tree : Phase → PhaseTree
phase_tree p = record { makes = p.makes; body = tree_of p.body; lines = map line_tree p.dims }

pub record ProgramTree : Type 0 where
  pub sources : ℕ
  pub phases : List PhaseTree
  pub give : List ℕ

-- a program as a plain tree
abbrev pub program_tree : Program → ProgramTree
program_tree p = record { sources = p.sources; phases = map phase_tree p.phases; give = p.give }

-- the block behind `else`, empty where there is none
abbrev pub other_tree : Option Block → Code
other_tree None = End
other_tree (Some b) = tree_of b

-- whether there is an `else`
abbrev pub was_given : Option Block → Bool
was_given None = false
was_given (Some b) = true
