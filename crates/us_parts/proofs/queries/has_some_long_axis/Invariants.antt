use Rattle.std.proofs.Common.{◌≡◌, drop, map}
use Rattle.std.specs.List.{list_any}
use Rattle.us_format.specs.Declaration.{query_of}
use Rattle.us_format.specs.Program.{plain_shape}
use Rattle.us_parts.specs.Cells.{has_long_axis}
use Rattle.us_parts.proofs.queries.has_some_long_axis.Given as goal

abbrev pub invariant-loop-query : goal.invariant-loop-query
invariant-loop-query l = list_any (has_long_axis (plain_shape l.shape)) (map query_of l.queries) ≡ list_any (has_long_axis (plain_shape l.shape)) (map query_of (drop l.query-index l.queries))
