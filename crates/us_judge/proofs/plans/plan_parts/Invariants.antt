use Rattle.std.proofs.Common.{◌≡◌, map, take}
use Rattle.us_judge.specs.Plans.{plan_for}
use Rattle.us_judge.specs.Views.{plain_part}
use Rattle.us_judge.proofs.plans.plan_parts.Given as goal

abbrev pub invariant-loop-part : goal.invariant-loop-part
invariant-loop-part l = l.plans ≡ map plan_for (map plain_part (take l.part-index l.parts))
