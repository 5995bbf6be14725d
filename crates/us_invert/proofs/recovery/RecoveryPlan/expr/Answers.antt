use Rattle.std.proofs.Common.{◌<◌, length, map, ap, sym, subst, ◌∙◌, arith}
use Rattle.std.proofs.lemmas.List.{length-map, get_or-map}
use Rattle.us_expr.specs.Tree.{tree, RowIndex}
use Rattle.us_format.specs.Known.{Steps}
use Rattle.us_invert.specs.Plan.{item_at}
use Rattle.us_invert.proofs.PlanSteps.{expr-is}
use Rattle.us_invert.proofs.recovery.RecoveryPlan.expr.Goals as goal

pub index-requires : goal.index-requires
index-requires c =
    let l : c.args.step < length (map tree c.self.inside.exprs.items) =
    (expr-is (map tree c.self.inside.exprs.items) c.self.inside.steps.items c.self.inside.rows_at c.self.inside.cols_at c.self.invariant c.args.step (subst (λ (plan : Steps). c.args.step < length plan) (sym c.self.view_is) c.requires)).0 in
    omega (arith, l, length-map c.self.inside.exprs.items tree, c.self.inside.exprs.ok.0)

pub returns : goal.returns
returns c =
    let r = expr-is (map tree c.self.inside.exprs.items) c.self.inside.steps.items c.self.inside.rows_at c.self.inside.cols_at c.self.invariant c.args.step (subst (λ (plan : Steps). c.args.step < length plan) (sym c.self.view_is) c.requires) in
    ap tree c.index.ensures ∙ sym (get_or-map tree c.self.inside.exprs.items c.args.step c.index.result.now RowIndex (omega (arith, r.0, length-map c.self.inside.exprs.items tree)))
    ∙ r.1 ∙ ap (λ (plan : Steps). (item_at plan c.args.step).0) c.self.view_is
