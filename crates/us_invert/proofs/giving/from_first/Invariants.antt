use Rattle.std.proofs.Common.{map, drop}
use Rattle.us_format.specs.Lists.{first_of}
use Rattle.us_format.specs.Declaration.{query_of}
use Rattle.us_known.specs.Table.{tree_at, trees}
use Rattle.us_invert.specs.Sources.{from_way}
use Rattle.us_invert.proofs.FromNodes.{IsSame}
use Rattle.us_invert.proofs.giving.from_first.Given as goal

-- the nodes that are left give what all nodes give
abbrev pub invariant-loop-s : goal.invariant-loop-s
invariant-loop-s l =
    IsSame l.nodes l.numbers (λ known. first_of (from_way l.way (map query_of l.queries) known (tree_at (trees l.nodes) l.e)) (trees l.nodes))
    (λ known. first_of (from_way l.way (map query_of l.queries) known (tree_at (trees l.nodes) l.e)) (drop l.s (trees l.nodes)))
