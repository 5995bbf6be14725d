use Rattle.std.proofs.Common.{◌≡◌, map, take}
use Rattle.us_expr.specs.Tree.{tree}
use Rattle.us_invert.specs.Made.{trees_at}
use Rattle.us_invert.proofs.planning.expressions_at.Given as goal

abbrev pub invariant-loop-n : goal.invariant-loop-n
invariant-loop-n l = map tree l.exprs.items ≡ trees_at l.nodes (take l.n-index l.made)
