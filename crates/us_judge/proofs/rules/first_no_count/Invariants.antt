use Rattle.std.proofs.Common.{map}
use Rattle.us_format.specs.Declaration.{query_of}
use Rattle.us_judge.specs.Acceptance.{is_count}
use Rattle.us_judge.proofs.Reaching.{Reaches}
use Rattle.us_judge.proofs.rules.first_no_count.Given as goal

abbrev pub invariant-loop-k : goal.invariant-loop-k
invariant-loop-k l = Reaches (λ _ q. is_count q) 0 (map query_of l.queries) l.k
