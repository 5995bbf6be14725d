use Rattle.std.proofs.Common.{ap, ◌∙◌}
use Rattle.us_expr.specs.Tree.{Tree, tree, Remainder}
use Rattle.us_expr.proofs.Trees.{tree-Rem}
use Rattle.us_advise.proofs.blocking.remainder.Goals as goal

pub returns : goal.returns
returns c = tree-Rem c.in_ok-index.index c.args.side ∙ ap (λ (x : Tree). Remainder x c.args.side) (ap tree c.in_ok-index.ensures)
