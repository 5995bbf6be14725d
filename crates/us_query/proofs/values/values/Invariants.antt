use Rattle.std.proofs.Common.{◌≡◌, map, take}
use Rattle.us_expr.specs.Tree.{tree}
use Rattle.us_format.specs.Program.{plain_entry}
use Rattle.us_format.specs.Queries.{plain_value}
use Rattle.us_query.proofs.values.values.Given as goal

abbrev pub invariant-loop-t : goal.invariant-loop-t
invariant-loop-t l = l.values.items ≡ map (λ t. plain_value (tree l.e) (plain_entry t)) (take l.t-index l.entries)
