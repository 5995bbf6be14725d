use Rattle.std.proofs.Common.{ap, ◌∙◌}
use Rattle.us_expr.specs.Tree.{Tree, tree, Quotient}
use Rattle.us_expr.proofs.Trees.{tree-Div}
use Rattle.us_advise.proofs.blocking.quotient.Goals as goal

pub returns : goal.returns
returns c = tree-Div c.in_ok-index.index c.args.side ∙ ap (λ (x : Tree). Quotient x c.args.side) (ap tree c.in_ok-index.ensures)
