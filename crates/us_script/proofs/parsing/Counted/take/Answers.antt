use Rattle.std.proofs.Common.{◌≡◌, ℕ, Bool, List, sym, ◌∙◌, ap}
use Rattle.std.proofs.lemmas.Result.{err_from_is_err_and}
use Rattle.us_script.specs.declared.step.Step.{Step}
use Rattle.us_script.specs.Steps.{lacks_set, sets_left, IsCounted}
use Rattle.us_script.proofs.ReadLemmas.{no_step, step_lacks, step_too_many, step_taken, told_fault}
use Rattle.us_script.proofs.parsing.Counted.take.Goals as goal

lacks_here : (items now : List Step) (sizes sets : ℕ) (step : Step) (b : Bool) → IsCounted items sizes sets → items ≡ now → b ≡ lacks_set sets step → lacks_set (sets_left 0 now) step ≡ b
lacks_here items now sizes sets step b h e is = sym (ap (λ n. lacks_set n step) (h.sets_are ∙ ap (sets_left 0) e)) ∙ sym is

pub returns-in_err-step : goal.returns-in_err-step
returns-in_err-step c =
    let p = err_from_is_err_and c.from_residual.result c.from_residual.ensures.1 in
    rw (p.1, p.2) (told_fault _ _ (no_step c.args.shape.rows c.args.shape.cols c.args.self.now (c.args.number, c.args.line.now) _ (sym c.in_err-step.ensures)))

pub returns-then-lacks_set : goal.returns-then-lacks_set
returns-then-lacks_set c =
    step_lacks c.args.shape.rows c.args.shape.cols c.args.self.now (c.args.number, c.args.line.now) c.in_ok-step.step (sym c.in_ok-step.ensures)
    (lacks_here _ _ _ _ c.in_ok-step.step _ c.self.invariant c.self.view_is c.if-lacks_set.ensures)

pub returns-then-is_too_many : goal.returns-then-is_too_many
returns-then-is_too_many c =
    step_too_many c.args.shape.rows c.args.shape.cols c.args.self.now (c.args.number, c.args.line.now) c.in_ok-step.step (sym c.in_ok-step.ensures)
    (lacks_here _ _ _ _ c.in_ok-step.step _ c.self.invariant c.self.view_is c.if-lacks_set.ensures) (sym c.if-is_too_many.ensures)

pub returns : goal.returns
returns c = (
  c.in_ok-step.step,
  step_taken c.args.shape.rows c.args.shape.cols c.args.self.now (c.args.number, c.args.line.now) c.in_ok-step.step (sym c.in_ok-step.ensures)
      (lacks_here _ _ _ _ c.in_ok-step.step _ c.self.invariant c.self.view_is c.if-lacks_set.ensures) (sym c.if-is_too_many.ensures),
  c.in_ok-push.ensures,
)
