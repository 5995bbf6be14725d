use Rattle.std.proofs.Common.{map}
use Rattle.us_expr.specs.Tree.{tree}
use Rattle.us_invert.proofs.Beginning.{IsStarting}
use Rattle.us_invert.proofs.starting.start.Given as goal

abbrev pub invariant-loop-n : goal.invariant-loop-n
invariant-loop-n l = IsStarting l.nodes (map tree l.levels) l.making l.n
