use Rattle.std.proofs.Common.{map, subst}
use Rattle.us_expr.specs.Tree.{tree, RowIndex}
use Rattle.us_format.specs.Known.{Steps}
use Rattle.us_invert.specs.Plan.{IsStepOf}
use Rattle.us_invert.proofs.PlanSteps.{row-step}
use Rattle.us_invert.proofs.recovery.RecoveryPlan.rows_at.Goals as goal

pub returns : goal.returns
returns c = subst (λ (plan : Steps). IsStepOf plan RowIndex c.self.inside.rows_at) c.self.view_is (row-step (map tree c.self.inside.exprs.items) c.self.inside.steps.items c.self.inside.rows_at c.self.inside.cols_at c.self.invariant)
