use Rattle.std.proofs.Common.{◌++◌, ap}
use Rattle.us_expr.specs.Tree.{tree, Tree}
use Rattle.us_print.specs.Canon.{comma, expr_text}
use Rattle.us_print.proofs.Printed.{flat_map-map}
use Rattle.us_print.proofs.printing.push_more_levels.Goals as goal

pub loop-level-init : goal.loop-level-init
loop-level-init c = ap (λ w. c.args.out.now.items ++ w) (flat_map-map (λ (e : Tree). comma ++ expr_text c.args.names.now e) tree c.args.levels.now)
