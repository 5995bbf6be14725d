-- Laws of values, ranges and trees.
use Rattle.std.specs.Prelude.{ℕ, ℤ, List, length, ◌≡◌}
use Rattle.us_expr.specs.declared.expression.Expr.{Expr}
use Rattle.us_expr.specs.declared.ranges.Range.{Range}
use Rattle.us_expr.specs.Tree.{Tree, tree}
use Rattle.us_expr.specs.Value.{value, IsWithin}
use Rattle.us_expr.specs.Range.{range, LiesIn, PointLiesIn}

-- a value lies in its range where the indices and the variables that are used lie in theirs
abbrev pub ValueLiesInRange : Type 0
ValueLiesInRange =
    (m n : ℕ) (rs : List Range) (i j : ℤ) (vs : List ℤ) (e : Tree)
    → PointLiesIn m n rs i j vs e → IsWithin (length vs) e → LiesIn (value i j vs e) (range m n rs e)

-- one tree, one expression
abbrev pub TreeTellsExpression : Type 0
TreeTellsExpression = (a b : Expr) → tree a ≡ tree b → a ≡ b
