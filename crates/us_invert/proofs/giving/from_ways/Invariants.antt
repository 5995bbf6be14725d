use Rattle.std.proofs.Common.{map, drop}
use Rattle.us_format.specs.Declaration.{query_of}
use Rattle.us_known.specs.Table.{tree_at, trees}
use Rattle.us_invert.specs.Sources.{by_ways}
use Rattle.us_invert.proofs.FromNodes.{IsSame}
use Rattle.us_invert.proofs.giving.from_ways.Given as goal

-- the ways that are left give what all ways give
abbrev pub invariant-loop-way : goal.invariant-loop-way
invariant-loop-way l =
    IsSame l.nodes l.numbers (λ known. by_ways l.ways (trees l.nodes) (map query_of l.queries) known (tree_at (trees l.nodes) l.e))
    (λ known. by_ways (drop l.way-index l.ways) (trees l.nodes) (map query_of l.queries) known (tree_at (trees l.nodes) l.e))
