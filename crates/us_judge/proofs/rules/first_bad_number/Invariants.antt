use Rattle.std.specs.Prelude.{not, nat_lt, ◌&&◌}
use Rattle.us_format.specs.Lists.{among}
use Rattle.us_judge.proofs.Reaching.{Reaches}
use Rattle.us_judge.proofs.rules.first_bad_number.Given as goal

abbrev pub invariant-loop-k : goal.invariant-loop-k
invariant-loop-k l = Reaches (λ before k. nat_lt k l.levels && not (among k before)) l.first l.numbers l.k
