use Rattle.us_build.proofs.Offsets.{AreLevels}
use Rattle.us_build.proofs.levels.levels_for.Given as goal

abbrev pub invariant-loop-k : goal.invariant-loop-k
invariant-loop-k l = AreLevels l.ranges.shape_rows l.ranges.shape_cols l.ranges.vars.items l.exprs l.kinds l.k l.levels.items
