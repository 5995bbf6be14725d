-- The table of sub-expressions: nodes whose operands are numbers of earlier nodes.
use Rattle.std.specs.Prelude.{ℕ, suc, ◌<◌, List, [], ◌∷◌, ◌++◌, length, slice_index_or, slice_get, ◌≡◌, ◌≢◌, Some}
use Rattle.us_expr.specs.Tree.{Tree, RowIndex, ColIndex, Number, Variable, Sum, Difference, Quotient, Remainder}
use Rattle.us_known.specs.declared.table.Node.{Node}
use Rattle.us_known.specs.declared.table.Node.TheVariants.{Row, Col, Number as NumberNode, Variable as VariableNode, Sum as SumNode, Difference as DifferenceNode, Quotient as QuotientNode, Remainder as RemainderNode}

-- the tree with a number
abbrev pub tree_at : List Tree → ℕ → Tree
tree_at ts n = slice_index_or ts n RowIndex

-- the tree of a node, where the earlier nodes have the trees ts
abbrev pub tree_of : List Tree → Node → Tree
tree_of ts Row = RowIndex
tree_of ts Col = ColIndex
tree_of ts (NumberNode c) = Number c
tree_of ts (VariableNode v) = Variable v
tree_of ts (SumNode a b) = Sum (tree_at ts a) (tree_at ts b)
tree_of ts (DifferenceNode a b) = Difference (tree_at ts a) (tree_at ts b)
tree_of ts (QuotientNode a k) = Quotient (tree_at ts a) k
tree_of ts (RemainderNode a k) = Remainder (tree_at ts a) k

-- the trees of nodes after nodes with the trees ts
abbrev pub trees_from : List Tree → List Node → List Tree
trees_from ts [] = ts
trees_from ts (n ∷ ns) = trees_from (ts ++ tree_of ts n ∷ []) ns

-- the trees of a table
abbrev pub trees : List Node → List Tree
trees ns = trees_from [] ns

-- the operands of a node have numbers below k
abbrev pub IsBelow : ℕ → Node → Type 0
IsBelow k Row = Unit {0}
IsBelow k Col = Unit {0}
IsBelow k (NumberNode c) = Unit {0}
IsBelow k (VariableNode v) = Unit {0}
IsBelow k (SumNode a b) = (a < k) × (b < k)
IsBelow k (DifferenceNode a b) = (a < k) × (b < k)
IsBelow k (QuotientNode a d) = a < k
IsBelow k (RemainderNode a d) = a < k

-- operands come first, the first node having the number k
abbrev pub AreOrdered : ℕ → List Node → Type 0
AreOrdered k [] = Unit {0}
AreOrdered k (n ∷ ns) = IsBelow k n × AreOrdered (suc k) ns

-- operands come first, and no tree stands twice
pub record IsTable (ns : List Node) : Type 0 where
  pub ordered : AreOrdered 0 ns
  pub apart : (i j : ℕ) → i < length ns → j < length ns → tree_at (trees ns) i ≡ tree_at (trees ns) j → i ≡ j

-- n is the number of an expression
pub record IsNumberOf (ns : List Node) (n : ℕ) (e : Tree) : Type 0 where
  pub below : n < length ns
  pub is : tree_at (trees ns) n ≡ e

-- a node stands nowhere
abbrev pub IsNoNode : List Node → Node → Type 0
IsNoNode ns n = (k : ℕ) → k < length ns → slice_get ns k ≢ Some n
