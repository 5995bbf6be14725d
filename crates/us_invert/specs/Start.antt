-- The steps at the start: constants and levels.
use Rattle.std.specs.Prelude.{ℕ, suc, ◌<◌, List, [], ◌∷◌, length, slice_index_or, Bool, false, nat_eq, if◌then◌else◌, ◌≡◌, Option, Some, None, IfSome, IfNone}
use Rattle.us_expr.specs.Tree.{Tree}
use Rattle.us_format.specs.Known.{has}
use Rattle.us_known.specs.declared.table.Node.{Node}
use Rattle.us_known.specs.declared.table.Node.TheVariants.{Number}
use Rattle.us_invert.specs.declared.steps.Source.{Source}
use Rattle.us_invert.specs.declared.steps.Source.TheVariants.{Constant, Level}
use Rattle.us_invert.specs.Sources.{has_step}
use Rattle.us_known.specs.Table.{trees, IsNumberOf, tree_at}

-- the node of an expression, if it is in the table
pub record IsNodeOf (ns : List Node) (e : Tree) (o : Option ℕ) : Type 0 where
  pub found : IfSome o (λ n. IsNumberOf ns n e)
  pub absent : IfNone o (has (trees ns) e ≡ false)

-- the nodes of some expressions
pub record AreNodesOf (ns : List Node) (es : List Tree) (os : List (Option ℕ)) : Type 0 where
  pub same_length : length os ≡ length es
  pub each : (k : ℕ) → k < length es → IsNodeOf ns (tree_at es k) (slice_index_or os k None)

-- whether it is the node n
abbrev pub is_node : ℕ → Option ℕ → Bool
is_node n (Some m) = nat_eq m n
is_node n None = false

-- the number of the first level whose node is n, the levels being numbered from k on
abbrev pub place_of : ℕ → List (Option ℕ) → ℕ → Option ℕ
place_of k [] n = None
place_of k (o ∷ os) n = if is_node n o then Some k else place_of (suc k) os n

abbrev pub level_source : Option ℕ → Option Source
level_source (Some k) = Some (Level k)
level_source None = None

-- what gives a node its value at the start
abbrev pub start_source : List (Option ℕ) → ℕ → Node → Option Source
start_source os n (Number c) = Some (Constant c)
start_source os n _ = level_source (place_of 0 os n)

-- above the node n the same nodes have steps
abbrev pub SameAbove : ℕ → List (Option ℕ) → List (Option ℕ) → Type 0
SameAbove n old new = (k : ℕ) → n < k → has_step new k ≡ has_step old k
