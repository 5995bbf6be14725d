use Rattle.std.proofs.Common.{◌≡◌, ◌<◌, ◌≤◌, ◌^◌, ◌∙◌, Err, Ok, All, ap, arith, length, subst, sym}
use Rattle.us_code.specs.Plain.{program_tree}
use Rattle.us_code.specs.Runs.{run_within}
use Rattle.us_code.specs.declared.program.Program.{Program}
use Rattle.us_machine.specs.Answer as machine
use Rattle.us_top.specs.Running.{run_step}
use Rattle.us_top.specs.Views.{ran_view}
use Rattle.us_status.specs.declared.status.Status.TheVariants.{OutOfSteps, TooLarge}
use Rattle.us_top.proofs.RunCodeLemmas.{buffers_short, run_gave, run_out_of_steps, run_too_large}
use Rattle.us_top.proofs.result.run_on.Goals as goal

pub run-requires-clause-short : goal.run-requires-clause-short
run-requires-clause-short c = subst (λ bufs. All (λ cells. length cells ≤ 67108864) bufs) (sym c.buffers-buffers.ensures.value) (buffers_short c.args.source.now c.buffers-buffers.ensures.held)

pub returns-in-Ok-clause-plain : goal.returns-in-Ok-clause-plain
returns-in-Ok-clause-plain c =
    let p = program_tree c.args.code.now in
    let small : c.args.budget < 2 ^ 64 = omega (arith, c.ranges.budget.fits) in
    let count : p.sources ≡ length c.buffers-buffers.result.now =
    sym (c.from-want.ensures ∙ ap (λ (p : Program). p.sources) c.program.ensures.same) ∙ c.if-want-have.false ∙ c.count-have.ensures in
    subst (λ bufs. run_step c.args.budget p bufs ≡ Ok (ran_view c.in-Ok.ran)) c.buffers-buffers.ensures.value
    (run_gave c.args.budget p c.buffers-buffers.result.now c.in-Ok.ran small count c.in-Ok.ensures)

pub returns-in-Err-TooLarge-clause-plain : goal.returns-in-Err-TooLarge-clause-plain
returns-in-Err-TooLarge-clause-plain c =
    let p = program_tree c.args.code.now in
    let count : p.sources ≡ length c.buffers-buffers.result.now =
    sym (c.from-want.ensures ∙ ap (λ (p : Program). p.sources) c.program.ensures.same) ∙ c.if-want-have.false ∙ c.count-have.ensures in
    subst (λ bufs. run_step c.args.budget p bufs ≡ Err (TooLarge 1)) c.buffers-buffers.ensures.value
    (run_too_large c.args.budget p c.buffers-buffers.result.now count
    (subst (λ stop. machine.IsAnswer (Err stop) (run_within p c.buffers-buffers.result.now c.args.budget)) c.in-Err-TooLarge.field-0-is c.in-Err-TooLarge.ensures))

pub returns-in-Err-OutOfSteps-clause-plain : goal.returns-in-Err-OutOfSteps-clause-plain
returns-in-Err-OutOfSteps-clause-plain c =
    let p = program_tree c.args.code.now in
    let count : p.sources ≡ length c.buffers-buffers.result.now =
    sym (c.from-want.ensures ∙ ap (λ (p : Program). p.sources) c.program.ensures.same) ∙ c.if-want-have.false ∙ c.count-have.ensures in
    subst (λ bufs. run_step c.args.budget p bufs ≡ Err (OutOfSteps c.args.budget)) c.buffers-buffers.ensures.value
    (run_out_of_steps c.args.budget p c.buffers-buffers.result.now count
    (subst (λ stop. machine.IsAnswer (Err stop) (run_within p c.buffers-buffers.result.now c.args.budget)) c.in-Err-OutOfSteps.field-0-is c.in-Err-OutOfSteps.ensures))
