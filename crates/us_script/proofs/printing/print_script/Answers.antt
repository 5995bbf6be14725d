use Rattle.std.proofs.Common.{◌+◌, ◌++◌, drop, get_or, flat_map, sym, ap, ◌∙◌, append_assoc, append-nil, pos}
use Rattle.std.proofs.lemmas.List.{at_drop_more, drop_all}
use Rattle.us_script.specs.declared.step.Step.{Step}
use Rattle.us_script.specs.declared.step.Step.TheVariants.{Set}
use Rattle.us_script.specs.Text.{script_text, step_line}
use Rattle.us_script.proofs.printing.print_script.Goals as goal

pub loop-step-init : goal.loop-step-init
unfolding script_text
loop-step-init c = rw (c.steps-steps.ensures) (ap (λ l. l ++ flat_map step_line c.args.script.now) c.new-out.ensures.items)

pub loop-step-preserved : goal.loop-step-preserved
loop-step-preserved c =
    let es = c.steps-steps.result.now in
    let k = c.loop-step.step-index in
    let zero_step : Step = Set 0 0 (pos 0) in
    rw (c.in_ok-push_step.ensures) (append_assoc (c.loop-step.out.items) (step_line (get_or es k zero_step)) (flat_map step_line (drop (k + 1) es)) ∙ ap (λ l. c.loop-step.out.items ++ l) (sym (at_drop_more (flat_map step_line) es k zero_step c.loop-step-test.true)) ∙ c.loop-step.invariant)

pub returns : goal.returns
returns c =
    sym (append-nil _) ∙ ap (λ l. c.loop-step.out.items ++ flat_map step_line l) (sym (drop_all c.loop-step.step-index c.steps-steps.result.now c.loop-step-test.false)) ∙ c.loop-step.invariant
