use Rattle.std.proofs.Common.{pos, map, take, get_or, refl, arith, sym, ap, ◌∷◌, [], ◌++◌, ◌∙◌}
use Rattle.std.proofs.lemmas.List.{take_all, take_more, map_push}
use Rattle.us_matrix.specs.declared.matrix.Triple.{Triple}
use Rattle.us_changes.specs.Edits.{as_step}
use Rattle.us_changes.proofs.changing.script_of.Goals as goal

pub loop-set-preserved : goal.loop-set-preserved
loop-set-preserved c =
    let zero_entry : Triple = record { i = 0; j = 0; v = pos 0 } in
    let sets = c.args.sets.now in
    let k = c.loop-set.set-index in
    c.in_ok-push.ensures.ok ∙ (λ i. c.loop-set.invariant i ++ c.as_step.ensures i ∷ []) ∙ sym (map_push as_step (take k sets) (get_or sets k zero_entry))
    ∙ ap (map as_step) (sym (take_more sets k zero_entry c.loop-set-test.true))

pub returns : goal.returns
returns c = c.loop-set.invariant ∙ ap (map as_step) (take_all c.loop-set.set-index c.args.sets.now c.loop-set-test.false)
