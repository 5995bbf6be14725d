use Rattle.std.proofs.Common.{◌≡◌, ap, sym, rules, ◌∙◌}
use Rattle.std.specs.Int.{w64, cast_signed, cast_unsigned}
use Rattle.std.proofs.lemmas.Int.{to_z-of_z}
use Rattle.us_script.specs.declared.step.Step.TheVariants.{Set}
use Rattle.us_changes.specs.Edits.{after}
use Rattle.us_changes.specs.Keeping.{made}
use Rattle.us_changes.proofs.StateLemmas.{made_push, made_undone}
use Rattle.us_changes.proofs.keeping.keep.Goals as goal

pub returns-in_ok-push-in-Set-clause-state : goal.returns-in_ok-push-in-Set-clause-state
returns-in_ok-push-in-Set-clause-state c =
    let v = c.in-Set.v in
    let back : cast_signed w64 (cast_unsigned w64 v) ≡ v = to_z-of_z w64 v (search rules) in
    λ es. ap (made es) c.in_ok-push-in-Set.ensures.items ∙ made_push es c.args.sets.now.items _
    ∙ ap (λ z. after (made es c.args.sets.now.items) (Set c.in-Set.i c.in-Set.j z)) back ∙ ap (after (made es c.args.sets.now.items)) (sym c.in-Set.is)

pub returns-in-Undo-clause-state : goal.returns-in-Undo-clause-state
returns-in-Undo-clause-state c = λ es.
    ap (made es) c.drop_last.ensures ∙ made_undone es c.args.sets.now.items ∙ ap (after (made es c.args.sets.now.items)) (sym c.in-Undo.is)
