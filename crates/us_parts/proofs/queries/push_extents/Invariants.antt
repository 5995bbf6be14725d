use Rattle.std.proofs.Common.{◌≡◌, ◌++◌, drop, map}
use Rattle.us_format.specs.Declaration.{query_of}
use Rattle.us_parts.specs.Cells.{extent_lists}
use Rattle.us_parts.proofs.queries.push_extents.Given as goal

abbrev pub invariant-loop-k : goal.invariant-loop-k
invariant-loop-k l = l.lists ++ extent_lists (map query_of (drop l.k l.queries)) (drop l.k l.extents) ≡ l.initial.lists ++ extent_lists (map query_of l.queries) l.extents
