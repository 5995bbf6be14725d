use Rattle.std.proofs.Common.{◌≡◌, ◌<◌, ◌≤◌, ◌+◌, ℕ, List, map, take, max, length, get_or, ap, sym, subst, ◌∙◌}
use Rattle.us_expr.specs.Tree.{tree}
use Rattle.us_format.specs.Known.{Steps}
use Rattle.us_invert.specs.declared.steps.PlanStep.{PlanStep}
use Rattle.us_invert.specs.Made.{trees_at}
use Rattle.us_invert.specs.Plan.{steps_of, IsPlan}
use Rattle.us_invert.proofs.Ending.{get-take, cut-is, cut-plan, cut-few}
use Rattle.us_invert.proofs.planning.cut.Goals as goal

pub expressions_at-requires-clause-nodes : goal.expressions_at-requires-clause-nodes
expressions_at-requires-clause-nodes c k l =
    let made : c.deref.result.now ≡ take (max c.args.rows_at c.args.cols_at + 1) c.args.making.made.items = c.deref.ensures.value ∙ c.truncate.ensures.items ∙ ap (λ (k : ℕ). take (k + 1) c.args.making.made.items) c.max-count.ensures in
    let r = get-take c.args.making.made.items (max c.args.rows_at c.args.cols_at + 1) k (subst (λ (xs : List ℕ). k < length xs) made l) in
    subst (λ (n : ℕ). n < length c.args.nodes.now) (sym (ap (λ (xs : List ℕ). get_or xs k 0) made ∙ r.1)) (c.requires.making.nodes k r.0)

pub returns-clause-is : goal.returns-clause-is
returns-clause-is c =
    c.from_steps.ensures
    ∙ ap (steps_of (map tree c.in_ok-exprs.exprs.items)) (c.truncate-2.ensures.items ∙ ap (λ (k : ℕ). take (k + 1) c.args.making.steps.items) c.max-count.ensures)
    ∙ cut-is c.args.nodes.now c.requires.table c.args.making c.requires.making c.args.rows_at c.args.cols_at c.requires.row_below c.requires.row c.requires.col_below c.requires.col (map tree c.in_ok-exprs.exprs.items)
    (c.in_ok-exprs.ensures ∙ ap (trees_at c.args.nodes.now) (c.deref.ensures.value ∙ c.truncate.ensures.items ∙ ap (λ (k : ℕ). take (k + 1) c.args.making.made.items) c.max-count.ensures))

pub returns-clause-few : goal.returns-clause-few
returns-clause-few c =
    subst (λ (plan : Steps). length plan ≤ length c.args.nodes.now) (sym c.from_steps.ensures)
    (subst (λ (steps : List PlanStep). length (steps_of (map tree c.in_ok-exprs.exprs.items) steps) ≤ length c.args.nodes.now) (sym (c.truncate-2.ensures.items ∙ ap (λ (k : ℕ). take (k + 1) c.args.making.steps.items) c.max-count.ensures))
    (cut-few c.args.nodes.now c.requires.table c.args.making c.requires.making c.args.rows_at c.args.cols_at c.requires.row_below c.requires.row c.requires.col_below c.requires.col (map tree c.in_ok-exprs.exprs.items)
    (c.in_ok-exprs.ensures ∙ ap (trees_at c.args.nodes.now) (c.deref.ensures.value ∙ c.truncate.ensures.items ∙ ap (λ (k : ℕ). take (k + 1) c.args.making.made.items) c.max-count.ensures))))

pub from_steps-requires : goal.from_steps-requires
from_steps-requires c =
    subst (λ (steps : List PlanStep). IsPlan (map tree c.in_ok-exprs.exprs.items) steps c.args.rows_at c.args.cols_at) (sym (c.truncate-2.ensures.items ∙ ap (λ (k : ℕ). take (k + 1) c.args.making.steps.items) c.max-count.ensures))
    (cut-plan c.args.nodes.now c.requires.table c.args.making c.requires.making c.args.rows_at c.args.cols_at c.requires.row_below c.requires.row c.requires.col_below c.requires.col (map tree c.in_ok-exprs.exprs.items)
    (c.in_ok-exprs.ensures ∙ ap (trees_at c.args.nodes.now) (c.deref.ensures.value ∙ c.truncate.ensures.items ∙ ap (λ (k : ℕ). take (k + 1) c.args.making.made.items) c.max-count.ensures)) c.requires.few)
