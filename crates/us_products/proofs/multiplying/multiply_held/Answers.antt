use Rattle.std.proofs.Common.{◌≡◌, ◌∙◌, Err, subst, sym}
use Rattle.std.proofs.lemmas.Result.{IfErr-weaker, on_ok_weaker}
use Rattle.us_status.specs.Answers.{IsStep}
use Rattle.us_products.proofs.MultiplyLemmas.{behind_sides, sides_end}
use Rattle.us_products.proofs.multiplying.multiply_held.Goals as goal

pub returns-in-Ok-clause-within : goal.returns-in-Ok-clause-within
returns-in-Ok-clause-within c =
    on_ok_weaker c.multiply_along.result
    (λ h. behind_sides c.args.vector c.args.held.matrix c.shape-cols.result.cols c.args.formats.now c.args.x.now c.shape-cols.ensures.1 c.in-Ok.ensures.fits ∙ h)
    c.multiply_along.ensures.within

pub returns-in-Ok-clause-plain : goal.returns-in-Ok-clause-plain
returns-in-Ok-clause-plain c =
    IfErr-weaker c.multiply_along.result _ _
    (λ s h.
    subst (λ r. IsStep {A = Unit {0}} r (Err s)) (sym (behind_sides c.args.vector c.args.held.matrix c.shape-cols.result.cols c.args.formats.now c.args.x.now c.shape-cols.ensures.1 c.in-Ok.ensures.fits)) h)
    c.multiply_along.ensures.plain

pub returns-in-Err-clause-plain : goal.returns-in-Err-clause-plain
returns-in-Err-clause-plain c =
    sides_end c.args.vector c.args.held.matrix c.shape-cols.result.cols c.args.formats.now c.args.x.now c.in-Err.status c.shape-cols.ensures.1 c.in-Err.ensures.plain
