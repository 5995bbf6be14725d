use Rattle.us_format.specs.Program.{plain_shape}
use Rattle.us_build.proofs.Named.{IsLeft}
use Rattle.us_build.proofs.ranges.variable_range.Given as goal

abbrev pub invariant-loop-k : goal.invariant-loop-k
invariant-loop-k l = IsLeft (plain_shape l.shape) l.extents l.queries l.name l.k
