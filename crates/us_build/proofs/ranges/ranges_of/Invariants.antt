use Rattle.std.proofs.Common.{◌≡◌, length, map}
use Rattle.std.specs.List.{range_with_len}
use Rattle.us_format.specs.Coordinates.{variable_range}
use Rattle.us_format.specs.Declaration.{query_of}
use Rattle.us_format.specs.Program.{plain_shape}
use Rattle.us_build.proofs.ranges.ranges_of.Given as goal

abbrev pub invariant-loop-name : goal.invariant-loop-name
invariant-loop-name l =
    (l.vars.items ≡ map (variable_range (plain_shape l.shape) l.variables.extents.items (map query_of l.queries)) (range_with_len 0 l.name)) × (length l.vars.items ≡ l.name)
