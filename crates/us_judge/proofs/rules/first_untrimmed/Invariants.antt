use Rattle.us_format.specs.Lists.{among}
use Rattle.us_judge.proofs.Reaching.{Reaches}
use Rattle.us_judge.proofs.rules.first_untrimmed.Given as goal

abbrev pub invariant-loop-k : goal.invariant-loop-k
invariant-loop-k l = Reaches (λ _ k. among k l.trim) l.first l.merge l.k
