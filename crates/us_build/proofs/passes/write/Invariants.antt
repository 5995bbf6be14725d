use Rattle.us_build.proofs.Passing.{IsWritten}
use Rattle.us_build.proofs.passes.write.Given as goal

abbrev pub invariant-loop-k : goal.invariant-loop-k
invariant-loop-k l = IsWritten l.initial.lists l.levels l.initial.items l.items l.k l.positions l.lists
