use Rattle.us_expr.proofs.Back.{tree_tells}
use Rattle.us_expr.proofs.laws.tree_tells_expression.Goals as goal

pub returns : goal.returns
returns c = tree_tells
