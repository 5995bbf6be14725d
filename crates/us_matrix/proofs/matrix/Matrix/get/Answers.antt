use Rattle.std.proofs.Common.{ap, ◌∙◌, arith}
use Rattle.us_matrix.specs.Map.{value_at}
use Rattle.us_matrix.proofs.Search.{outside_cols, narrow}
use Rattle.us_matrix.proofs.matrix.Matrix.get.Goals as goal

pub returns-then-j-self : goal.returns-then-j-self
returns-then-j-self c = outside_cols _ _ c.args.i c.args.j _ c.self.invariant.entries (omega arith) ∙ ap (λ m. value_at m.entries c.args.i c.args.j) c.self.view_is

pub value_in-requires-clause-narrow : goal.value_in-requires-clause-narrow
value_in-requires-clause-narrow c = rw c.deref.ensures.value (narrow _ _ _ c.self.invariant.entries c.self.invariant.cols.high)
