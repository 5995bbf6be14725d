use Rattle.std.proofs.Common.{◌≡◌}
use Rattle.us_code.specs.Plain.{tree_of}
use Rattle.us_expr.specs.Tree.{tree}
use Rattle.us_gen_query.specs.Filling.{loads}
use Rattle.us_gen_query.proofs.filling.loads.Given as goal

abbrev pub invariant-loop-number : goal.invariant-loop-number
invariant-loop-number l = tree_of l.block ≡ loads l.columns (tree l.e) l.place l.number
