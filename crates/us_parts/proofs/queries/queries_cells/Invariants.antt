use Rattle.std.proofs.Common.{◌≡◌, ◌+◌, ◌≤◌, drop, map}
use Rattle.us_format.specs.Declaration.{query_of}
use Rattle.us_format.specs.Program.{plain_shape}
use Rattle.us_parts.specs.Cells.{queries_cells}
use Rattle.us_parts.proofs.queries.queries_cells.Given as goal

abbrev pub invariant-loop-k : goal.invariant-loop-k
invariant-loop-k l =
    (l.cells + queries_cells (plain_shape l.shape) (map query_of (drop l.k l.queries)) (drop l.k l.extents) ≡ queries_cells (plain_shape l.shape) (map query_of l.queries) l.extents)
    × (l.cells ≤ 67108864)
