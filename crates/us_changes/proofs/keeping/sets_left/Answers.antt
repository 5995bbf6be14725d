use Rattle.std.proofs.Common.{pos, length, get_or, subst, refl, arith, sym, ap, ◌∙◌}
use Rattle.std.specs.List.{All}
use Rattle.std.proofs.lemmas.List.{take_all}
use Rattle.std.proofs.lemmas.List.Elements.{All-nil}
use Rattle.us_script.specs.declared.step.Step.{Step}
use Rattle.us_script.specs.declared.step.Step.TheVariants.{Set}
use Rattle.us_changes.specs.Edits.{start, after, after_all}
use Rattle.us_changes.specs.Keeping.{IsPut, made}
use Rattle.us_changes.proofs.StateLemmas.{after_more}
use Rattle.us_changes.proofs.keeping.sets_left.Goals as goal

pub loop-step-init : goal.loop-step-init
loop-step-init c = record {
  state = λ es. ap (made es) c.new-sets.ensures.items;
  inside = subst (All (IsPut c.args.shape.rows c.args.shape.cols)) (sym c.new-sets.ensures.items) (All-nil (IsPut c.args.shape.rows c.args.shape.cols));
  few = omega (arith, ap length c.new-sets.ensures.items);
}

pub loop-step-preserved : goal.loop-step-preserved
loop-step-preserved c =
    let zero_step : Step = Set 0 0 (pos 0) in
    record {
      state = λ es.
          c.in_ok-keep.ensures.state es ∙ ap (λ s. after s (get_or c.args.steps.now c.loop-step.step-index zero_step)) (c.loop-step.invariant.state es)
          ∙ sym (after_more (start es) c.args.steps.now c.loop-step.step-index zero_step c.loop-step-test.true);
      inside = c.in_ok-keep.ensures.inside;
      few = omega (arith, c.in_ok-keep.ensures.few, c.loop-step.invariant.few);
    }

pub returns-clause-state : goal.returns-clause-state
returns-clause-state c = λ es. c.loop-step.invariant.state es ∙ ap (after_all (start es)) (take_all c.loop-step.step-index c.args.steps.now c.loop-step-test.false)
