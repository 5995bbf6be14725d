use Rattle.std.proofs.Common.{All, subst, arith}
use Rattle.us_judge.specs.Plans.{IsPlannable}
use Rattle.us_judge.specs.Views.{plain_part, plain_body}
use Rattle.us_judge.proofs.plans.plans_of.Goals as goal

pub plan_one-requires : goal.plan_one-requires
plan_one-requires c = subst (λ b. All IsPlannable (plain_body b).parts) c.in-One.is c.requires 0 (plain_part c.in-One.part) (omega arith)
