use Rattle.std.proofs.Common.{map}
use Rattle.us_format.specs.Lists.{among}
use Rattle.us_format.specs.Declaration.{query_of, defined}
use Rattle.us_judge.proofs.Reaching.{Reaches}
use Rattle.us_judge.proofs.head.first_undefined.Given as goal

abbrev pub invariant-loop-k : goal.invariant-loop-k
invariant-loop-k l = Reaches (λ _ c. among c.var (defined (map query_of l.queries))) l.first l.conds l.k
