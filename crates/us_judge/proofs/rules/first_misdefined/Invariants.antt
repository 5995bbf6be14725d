use Rattle.std.proofs.Common.{map}
use Rattle.us_format.specs.Declaration.{query_of}
use Rattle.us_judge.specs.Acceptance.{is_defined_once}
use Rattle.us_judge.proofs.Reaching.{Reaches}
use Rattle.us_judge.proofs.rules.first_misdefined.Given as goal

abbrev pub invariant-loop-k : goal.invariant-loop-k
invariant-loop-k l = Reaches is_defined_once 0 (map query_of l.queries) l.k
