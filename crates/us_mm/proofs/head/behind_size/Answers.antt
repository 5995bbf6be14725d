use Rattle.std.proofs.Common.{sym, refl, ◌≡◌, ◌++◌, ◌∷◌, [], false, ◌∙◌}
use Rattle.us_mm.specs.declared.stage.Stage.{Stage}
use Rattle.us_mm.specs.Views.{sizes}
use Rattle.us_mm.specs.Stages.{Knows, is_array}
use Rattle.us_mm.proofs.KnowsLemmas.{took_fault, form_skips, form_sizes, form_fails}
use Rattle.us_mm.proofs.head.behind_size.Goals as goal

pub returns-then-skipped : goal.returns-then-skipped
returns-then-skipped c = λ n ls line h is skip g. (form_skips c.args.form ls line h (sym skip ∙ c.if-skipped.true), refl)

pub returns-in-Ok : goal.returns-in-Ok
returns-in-Ok c = λ n ls line h is skip g.
    let given = rw c.in-Ok.is at g in
    let same = rw c.in-Ok.is at c.requires.form in
    (rw c.new.ensures (form_sizes c.args.form ls line n (sizes c.in-Ok.size) h (sym skip ∙ c.if-skipped.false) is given same), refl)

pub returns-in-Err : goal.returns-in-Err
returns-in-Err c = λ n ls line h is skip g.
    let given = rw c.in-Err.is at g in
    took_fault {A = Stage} (λ s. Knows s (ls ++ line ∷ []) × (is_array s ≡ false)) false c.in-Err.fault (ls ++ line ∷ [])
    (form_fails c.args.form ls line n c.in-Err.fault h (sym skip ∙ c.if-skipped.false) is given)
