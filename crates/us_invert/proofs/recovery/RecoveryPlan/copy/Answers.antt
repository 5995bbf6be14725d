use Rattle.std.proofs.Common.{List, map, ap₂, sym, subst, ◌∙◌}
use Rattle.us_expr.specs.declared.expression.Expr.{Expr}
use Rattle.us_expr.specs.Tree.{tree}
use Rattle.us_invert.specs.declared.steps.PlanStep.{PlanStep}
use Rattle.us_invert.specs.Plan.{steps_of, IsPlan}
use Rattle.us_invert.proofs.recovery.RecoveryPlan.copy.Goals as goal

pub returns : goal.returns
returns c =
    ap₂ (λ (exprs : List Expr) (steps : List PlanStep). steps_of (map tree exprs) steps) (c.in_ok-exprs.ensures ∙ c.deref.ensures.value) (c.in_ok-steps.ensures.items ∙ c.deref-2.ensures.value)
    ∙ c.self.view_is

pub invariant_of-result : goal.invariant_of-result
invariant_of-result c =
    subst (λ (exprs : List Expr). IsPlan (map tree exprs) c.in_ok-steps.steps.items c.self.inside.rows_at c.self.inside.cols_at) (sym (c.in_ok-exprs.ensures ∙ c.deref.ensures.value))
    (subst (λ (steps : List PlanStep). IsPlan (map tree c.self.inside.exprs.items) steps c.self.inside.rows_at c.self.inside.cols_at) (sym (c.in_ok-steps.ensures.items ∙ c.deref-2.ensures.value)) c.self.invariant)
