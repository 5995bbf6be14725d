use Rattle.us_advise.proofs.LeastSoFar.{IsLeastTo}
use Rattle.us_advise.proofs.choosing.least_of.Given as goal

abbrev pub invariant-loop-k : goal.invariant-loop-k
invariant-loop-k l = IsLeastTo l.sizes l.k l.best l.least
