use Rattle.us_container.proofs.Differing.{Agree}
use Rattle.us_container.proofs.text.first_difference.Given as goal

abbrev pub invariant-loop-k : goal.invariant-loop-k
invariant-loop-k l = Agree l.left l.right l.k
