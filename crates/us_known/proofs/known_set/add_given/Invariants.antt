use Rattle.std.proofs.Common.{map, take}
use Rattle.us_expr.specs.Tree.{tree}
use Rattle.us_known.specs.Table.{trees}
use Rattle.us_known.specs.Flags.{AddsGiven}
use Rattle.us_known.proofs.known_set.add_given.Given as goal

abbrev pub invariant-loop-e : goal.invariant-loop-e
invariant-loop-e l = AddsGiven (trees l.nodes) (map tree (take l.e-index l.given)) l.fn.flags l.flags
