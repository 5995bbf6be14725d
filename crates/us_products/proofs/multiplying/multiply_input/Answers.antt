use Rattle.std.proofs.Common.{◌≡◌, Ok, subst}
use Rattle.std.proofs.lemmas.Result.{IfErr-weaker, IfOk-weaker, on_ok_weaker}
use Rattle.us_inputs.specs.Views.{contained_of, input_view}
use Rattle.us_inputs.proofs.HeldLemmas.{held_is}
use Rattle.us_products.specs.Factors.{product_step}
use Rattle.us_products.proofs.MultiplyLemmas.{held_ends, made_of_held, not_held_ends}
use Rattle.us_products.proofs.multiplying.multiply_input.Goals as goal

pub returns-in-Ok-clause-made : goal.returns-in-Ok-clause-made
returns-in-Ok-clause-made c =
    let i = input_view c.args.input in
    IfOk-weaker c.multiply_held.result _ _
    (λ made h.
    made_of_held c.args.vector c.args.listed c.args.formats.now i c.args.x.now c.in-Ok.held.matrix (contained_of c.in-Ok.held) made c.in-Ok.ensures.matrix
    (held_is i (contained_of c.in-Ok.held) c.in-Ok.ensures.plain) h)
    c.multiply_held.ensures.made

pub returns-in-Ok-clause-within : goal.returns-in-Ok-clause-within
returns-in-Ok-clause-within c =
    on_ok_weaker c.multiply_held.result (λ h. subst (λ m. product_step c.args.vector m c.args.formats.now c.args.x.now ≡ Ok tt) c.in-Ok.ensures.matrix h) c.multiply_held.ensures.within

pub returns-in-Ok-clause-plain : goal.returns-in-Ok-clause-plain
returns-in-Ok-clause-plain c =
    IfErr-weaker c.multiply_held.result _ _
    (λ s h. held_ends c.args.vector c.args.formats.now (input_view c.args.input) c.args.x.now c.in-Ok.held.matrix s c.in-Ok.ensures.matrix h)
    c.multiply_held.ensures.plain

pub returns-in-Err-clause-plain : goal.returns-in-Err-clause-plain
returns-in-Err-clause-plain c = not_held_ends c.args.vector c.args.formats.now (input_view c.args.input) c.args.x.now c.in-Err.status c.in-Err.ensures.plain
