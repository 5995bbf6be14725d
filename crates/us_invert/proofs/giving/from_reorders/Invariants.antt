use Rattle.std.proofs.Common.{map, drop}
use Rattle.us_format.specs.Declaration.{query_of}
use Rattle.us_format.specs.Known.{order_for}
use Rattle.us_known.specs.Table.{tree_at, trees}
use Rattle.us_invert.proofs.FromNodes.{IsSame}
use Rattle.us_invert.proofs.giving.from_reorders.Given as goal

-- the queries that are left give what all queries give
abbrev pub invariant-loop-number : goal.invariant-loop-number
invariant-loop-number l =
    IsSame l.nodes l.numbers (λ known. order_for known (tree_at (trees l.nodes) l.e) l.v 0 (map query_of l.queries))
    (λ known. order_for known (tree_at (trees l.nodes) l.e) l.v l.number (drop l.number (map query_of l.queries)))
