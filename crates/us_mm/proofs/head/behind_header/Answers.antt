use Rattle.std.proofs.Common.{sym, refl, ◌≡◌, ◌∷◌, [], false, ◌∙◌}
use Rattle.us_mm.specs.declared.stage.Stage.{Stage}
use Rattle.us_mm.specs.Stages.{Knows, is_array}
use Rattle.us_mm.proofs.KnowsLemmas.{took_fault, header_known, header_fails}
use Rattle.us_mm.proofs.head.behind_header.Goals as goal

pub returns-in-Ok : goal.returns-in-Ok
returns-in-Ok c = λ line h. (header_known line c.in-Ok.form (sym h ∙ c.in-Ok.is), refl)

pub returns-in-Err : goal.returns-in-Err
returns-in-Err c = λ line h. took_fault {A = Stage} (λ s. Knows s (line ∷ []) × (is_array s ≡ false)) false c.in-Err.fault (line ∷ []) (header_fails line c.in-Err.fault (sym h ∙ c.in-Err.is))
