-- An expression as a plain tree.
use Rattle.std.specs.Prelude.{ℕ, ◌+◌, Bool, false, eqb, ◌||◌}
use Rattle.us_expr.specs.declared.expression.Expr.{Expr}
use Rattle.us_expr.specs.declared.expression.Expr.TheOpen.{Expr-F}
use Rattle.us_expr.specs.declared.expression.Expr.TheFolds.{fold-Expr}

-- an expression: an index, a number, a variable by its number, or an operation
pub data Tree : Type 0 where
  RowIndex : Tree
  ColIndex : Tree
  Number : ℕ → Tree
  Variable : ℕ → Tree
  Sum : Tree → Tree → Tree
  Difference : Tree → Tree → Tree
  Quotient : Tree → ℕ → Tree
  Remainder : Tree → ℕ → Tree

-- the tree of an expression whose operands are trees already
abbrev pub one_level : Expr-F Tree → Tree
one_level Expr-F.I = RowIndex
one_level Expr-F.J = ColIndex
one_level (Expr-F.Const c) = Number c
one_level (Expr-F.Var v) = Variable v
one_level (Expr-F.Add a b) = Sum a b
one_level (Expr-F.Sub a b) = Difference a b
one_level (Expr-F.Div a k) = Quotient a k
one_level (Expr-F.Rem a k) = Remainder a k

-- the tree of an expression of the program
abbrev pub tree : Expr → Tree
tree = fold-Expr Tree one_level

-- how many nodes a tree has
abbrev pub node_count : Tree → ℕ
node_count RowIndex = 1
node_count ColIndex = 1
node_count (Number c) = 1
node_count (Variable v) = 1
node_count (Sum a b) = 1 + node_count a + node_count b
node_count (Difference a b) = 1 + node_count a + node_count b
node_count (Quotient a k) = 1 + node_count a
node_count (Remainder a k) = 1 + node_count a

-- whether the variable v stands in a tree
abbrev pub uses : Tree → ℕ → Bool
uses RowIndex v = false
uses ColIndex v = false
uses (Number c) v = false
uses (Variable w) v = eqb w v
uses (Sum a b) v = uses a v || uses b v
uses (Difference a b) v = uses a v || uses b v
uses (Quotient a k) v = uses a v
uses (Remainder a k) v = uses a v
