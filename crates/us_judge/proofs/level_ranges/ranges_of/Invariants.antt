use Rattle.std.proofs.Common.{◌≡◌, map, length}
use Rattle.std.specs.List.{range_with_len}
use Rattle.us_format.specs.Coordinates.{variable_range}
use Rattle.us_format.specs.Declaration.{query_of}
use Rattle.us_judge.proofs.level_ranges.ranges_of.Given as goal

abbrev pub invariant-loop-variable : goal.invariant-loop-variable
invariant-loop-variable l =
    (l.vars.items ≡ map (variable_range (record { rows = l.shape_rows; cols = l.shape_cols }) l.extents (map query_of l.part.queries)) (range_with_len 0 l.variable))
    × (length l.vars.items ≡ l.variable)
