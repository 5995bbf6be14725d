use Rattle.std.proofs.Common.{map}
use Rattle.us_expr.specs.Tree.{tree}
use Rattle.us_invert.specs.Recovery.{found_of}
use Rattle.us_invert.proofs.Walking.{IsOnWay}
use Rattle.us_invert.proofs.recovering.recover_steps.Given as goal

abbrev pub invariant-loop-n : goal.invariant-loop-n
invariant-loop-n l =
    IsOnWay (map tree l.exprs) l.steps l.ranges.shape_rows l.ranges.shape_cols l.ranges.vars.items (found_of l.values l.tables.buffers.now l.tables.at.items l.tables.extents.items) l.n l.kept.items
