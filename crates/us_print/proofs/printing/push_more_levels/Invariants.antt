use Rattle.std.proofs.Common.{◌≡◌, ◌++◌, drop, map}
use Rattle.std.specs.List.{flat_map}
use Rattle.us_expr.specs.Tree.{tree}
use Rattle.us_print.specs.Canon.{comma, expr_text}
use Rattle.us_print.proofs.printing.push_more_levels.Given as goal

abbrev pub invariant-loop-level : goal.invariant-loop-level
invariant-loop-level l = l.out.items ++ flat_map (λ e. comma ++ expr_text l.names (tree e)) (drop l.level-index l.levels) ≡ l.fn.out.items ++ flat_map (λ e. comma ++ expr_text l.names e) (map tree l.levels)
