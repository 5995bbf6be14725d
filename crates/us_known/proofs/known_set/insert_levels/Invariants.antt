use Rattle.us_expr.specs.Tree.{tree}
use Rattle.us_known.proofs.Loops.{IsInserted}
use Rattle.us_format.specs.Known.{sub_expressions}
use Rattle.us_known.proofs.known_set.insert_levels.Given as goal

abbrev pub invariant-loop-level : goal.invariant-loop-level
invariant-loop-level l = IsInserted (λ e. sub_expressions (tree e)) l.fn.nodes.items l.nodes.items l.levels l.level-index
