use Rattle.us_judge.specs.Views.{plain_part}
use Rattle.us_judge.proofs.Looseness.{IsOrderedTo}
use Rattle.us_judge.proofs.rules.bad_order.Given as goal

abbrev pub invariant-loop-k : goal.invariant-loop-k
invariant-loop-k l = IsOrderedTo (plain_part l.part) l.k l.seen
