use Rattle.std.proofs.Common.{◌≡◌, take}
use Rattle.us_judge.proofs.plans.copy_plans.Given as goal

abbrev pub invariant-loop-plan : goal.invariant-loop-plan
invariant-loop-plan l = l.copy ≡ take l.plan-index l.plans
