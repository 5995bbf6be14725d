use Rattle.std.proofs.Common.{List, map, sym, subst}
use Rattle.us_expr.specs.Tree.{tree}
use Rattle.us_format.specs.Known.{Steps}
use Rattle.us_invert.specs.declared.steps.PlanStep.{PlanStep}
use Rattle.us_invert.specs.Plan.{steps_of, HasSteps}
use Rattle.us_invert.specs.Recovery.{StepsRecover}
use Rattle.us_invert.proofs.Numbered.{steps-recover}
use Rattle.us_invert.proofs.PlanSteps.{has-steps}
use Rattle.us_invert.proofs.recovery.RecoveryPlan.steps.Goals as goal

pub returns-clause-numbered : goal.returns-clause-numbered
returns-clause-numbered c =
    subst (λ (plan : Steps). HasSteps plan c.as_slice.result.now) c.self.view_is
    (subst (λ (steps : List PlanStep). HasSteps (steps_of (map tree c.self.inside.exprs.items) c.self.inside.steps.items) steps) (sym c.as_slice.ensures.value) (has-steps (map tree c.self.inside.exprs.items) c.self.inside.steps.items c.self.inside.rows_at c.self.inside.cols_at c.self.invariant))

pub returns-clause-recovers : goal.returns-clause-recovers
returns-clause-recovers c =
    subst (λ (plan : Steps). StepsRecover plan c.as_slice.result.now) c.self.view_is
    (subst (λ (steps : List PlanStep). StepsRecover (steps_of (map tree c.self.inside.exprs.items) c.self.inside.steps.items) steps) (sym c.as_slice.ensures.value) (steps-recover (map tree c.self.inside.exprs.items) c.self.inside.steps.items c.self.inside.rows_at c.self.inside.cols_at c.self.invariant))
