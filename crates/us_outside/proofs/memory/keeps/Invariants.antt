use Rattle.std.proofs.Common.{◌≡◌, map, drop}
use Rattle.us_outside.specs.Memory.{plan_of, kept_by}
use Rattle.us_outside.proofs.memory.keeps.Given as goal

abbrev pub invariant-loop-plan : goal.invariant-loop-plan
invariant-loop-plan l = kept_by l.call l.nth (map plan_of l.planned) ≡ kept_by l.call l.nth (map plan_of (drop l.plan-index l.planned))
