use Rattle.std.proofs.Common.{map, subst}
use Rattle.us_expr.specs.Tree.{tree, ColIndex}
use Rattle.us_format.specs.Known.{Steps}
use Rattle.us_invert.specs.Plan.{IsStepOf}
use Rattle.us_invert.proofs.PlanSteps.{col-step}
use Rattle.us_invert.proofs.recovery.RecoveryPlan.cols_at.Goals as goal

pub returns : goal.returns
returns c = subst (λ (plan : Steps). IsStepOf plan ColIndex c.self.inside.cols_at) c.self.view_is (col-step (map tree c.self.inside.exprs.items) c.self.inside.steps.items c.self.inside.rows_at c.self.inside.cols_at c.self.invariant)
