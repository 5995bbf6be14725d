use Rattle.us_build.proofs.Passing.{IsMeasured}
use Rattle.us_build.proofs.passes.add_up.Given as goal

abbrev pub invariant-loop-k : goal.invariant-loop-k
invariant-loop-k l = IsMeasured l.levels l.initial.items l.items l.k l.positions l.total
