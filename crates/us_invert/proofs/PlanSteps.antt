-- The steps of a plan, with their numbers.
use Rattle.std.proofs.Common.{◌≡◌, ℕ, ◌<◌, List, length, sym, ap, ◌∙◌, subst, arith}
use Rattle.us_expr.specs.Tree.{Tree, RowIndex, ColIndex}
use Rattle.us_format.specs.Known.{Give, Itself}
use Rattle.us_invert.specs.declared.steps.PlanStep.{PlanStep}
use Rattle.us_known.specs.Table.{tree_at}
use Rattle.us_invert.specs.Plan.{give_at, steps_of, step_at, item_at, IsPlan, HasSteps, IsStepOf}
use Rattle.us_invert.proofs.StepLists.{known-steps, length-steps, steps-at}

module _ (ts : List Tree) (steps : List PlanStep) (r c : ℕ) (plan : IsPlan ts steps r c) where
  steps-length : length (steps_of ts steps) ≡ length ts
  steps-length = length-steps ts ts steps plan.steps_are.same_length

  below : (k : ℕ) → k < length (steps_of ts steps) → k < length ts
  below k l = subst (λ (j : ℕ). k < j) steps-length l

  item : (k : ℕ) → k < length ts → item_at (steps_of ts steps) k ≡ (tree_at ts k, give_at ts (step_at steps k))
  item k l = steps-at ts ts steps k (RowIndex, Itself 0) plan.steps_are.same_length l

  pub has-steps : HasSteps (steps_of ts steps) steps
  has-steps = record {
    same_length = plan.steps_are.same_length ∙ sym steps-length;
    earlier = λ k l. plan.steps_are.earlier k (below k l);
    gives = λ k l. ap (λ (us : List Tree). give_at us (step_at steps k)) (known-steps ts ts steps plan.steps_are.same_length) ∙ sym (ap (λ (x : Tree × Give). x.1) (item k (below k l)));
  }

  -- the expression of a step
  pub expr-is : (k : ℕ) → k < length (steps_of ts steps) → (k < length ts) × (tree_at ts k ≡ (item_at (steps_of ts steps) k).0)
  expr-is k l = (below k l, sym (ap (λ (x : Tree × Give). x.0) (item k (below k l))))

  step-is : (k : ℕ) (e : Tree) → k < length ts → tree_at ts k ≡ e → IsStepOf (steps_of ts steps) e k
  step-is k e l q = record { below = subst (λ (j : ℕ). k < j) (sym steps-length) l; is = ap (λ (x : Tree × Give). x.0) (item k l) ∙ q }

  pub row-step : IsStepOf (steps_of ts steps) RowIndex r
  row-step = step-is r RowIndex (omega (arith, plan.last)) plan.row

  pub col-step : IsStepOf (steps_of ts steps) ColIndex c
  col-step = step-is c ColIndex (omega (arith, plan.last)) plan.col
