use Rattle.us_machine.specs.Starting.{IsSourcePlan}
use Rattle.us_machine.proofs.starting.source_plan.Given as goal

abbrev pub invariant-loop-k : goal.invariant-loop-k
invariant-loop-k l = IsSourcePlan l.source l.k l.plan.items
