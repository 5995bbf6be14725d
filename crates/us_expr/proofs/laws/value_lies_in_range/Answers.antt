use Rattle.us_expr.proofs.Lies.{value_lies}
use Rattle.us_expr.proofs.laws.value_lies_in_range.Goals as goal

pub returns : goal.returns
returns c = value_lies
