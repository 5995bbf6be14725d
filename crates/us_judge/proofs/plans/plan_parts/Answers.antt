use Rattle.std.proofs.Common.{◌∙◌}
use Rattle.us_judge.specs.Plans.{IsPlannable, plan_for}
use Rattle.us_judge.proofs.EachPart.{all-at, pushed-next, mapped-all}
use Rattle.us_judge.proofs.plans.plan_parts.Goals as goal

pub plan_part-requires : goal.plan_part-requires
plan_part-requires c = all-at IsPlannable c.args.parts.now c.loop-part.part-index c.part-item.result c.requires c.loop-part-test.true c.part-item.is

pub loop-part-preserved : goal.loop-part-preserved
loop-part-preserved c =
    pushed-next plan_for c.args.parts.now c.loop-part.part-index c.part-item.result c.loop-part.plans c.push.new.self c.in_ok-plan_part.field-0 c.loop-part-test.true c.part-item.is c.loop-part.invariant c.in_ok-plan_part.ensures c.in_ok-push.ensures.ok

pub returns : goal.returns
returns c = c.loop-part.invariant ∙ mapped-all plan_for c.args.parts.now c.loop-part.part-index c.loop-part-test.false
