use Rattle.std.proofs.Common.{◌≡◌, Ok, Err, subst}
use Rattle.std.proofs.lemmas.Result.{IfErr-weaker, IfOk-weaker, on_ok_weaker}
use Rattle.us_status.specs.Answers.{IsStep}
use Rattle.us_inputs.specs.Steps.{within_limit}
use Rattle.us_inputs.specs.Views.{contained_of, input_view}
use Rattle.us_inputs.proofs.HeldLemmas.{held_is, not_held}
use Rattle.us_journeys.proofs.ConvertedLemmas.{made_of_held}
use Rattle.us_journeys.proofs.conversion.make.Goals as goal

pub returns-in-Ok-clause-made : goal.returns-in-Ok-clause-made
returns-in-Ok-clause-made c =
    let i = input_view c.args.input in
    IfOk-weaker c.convert_held.result _ _
    (λ made h.
    made_of_held c.args.chain.now c.args.listed c.args.formats.now i c.in-Ok.held.matrix (contained_of c.in-Ok.held) made c.in-Ok.ensures.matrix
    (held_is i (contained_of c.in-Ok.held) c.in-Ok.ensures.plain) h)
    c.convert_held.ensures.made

pub returns-in-Ok-clause-within : goal.returns-in-Ok-clause-within
returns-in-Ok-clause-within c =
    on_ok_weaker c.convert_held.result (λ h. subst (λ m. within_limit m 1 c.args.formats.now ≡ Ok tt) c.in-Ok.ensures.matrix h) c.convert_held.ensures.within

pub returns-in-Ok-clause-plain : goal.returns-in-Ok-clause-plain
returns-in-Ok-clause-plain c =
    IfErr-weaker c.convert_held.result _ _
    (λ s h _. subst (λ m. IsStep {A = Unit {0}} (within_limit m 1 c.args.formats.now) (Err s)) c.in-Ok.ensures.matrix h)
    c.convert_held.ensures.plain

pub returns-in-Err-clause-plain : goal.returns-in-Err-clause-plain
returns-in-Err-clause-plain c = not_held (input_view c.args.input) c.in-Err.status _ c.in-Err.ensures.plain
