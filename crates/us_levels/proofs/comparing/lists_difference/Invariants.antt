use Rattle.us_levels.proofs.Unlike.{AreAlike}
use Rattle.us_levels.proofs.comparing.lists_difference.Given as goal

abbrev pub invariant-loop-k : goal.invariant-loop-k
invariant-loop-k l = AreAlike l.first l.lists l.buffers l.k
