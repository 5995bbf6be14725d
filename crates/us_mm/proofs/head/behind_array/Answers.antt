use Rattle.std.proofs.Common.{sym, refl, ◌≡◌, ◌∷◌, [], true, ◌∙◌}
use Rattle.us_mm.specs.declared.stage.Stage.{Stage}
use Rattle.us_mm.specs.Stages.{Knows, is_array}
use Rattle.us_mm.proofs.KnowsLemmas.{took_fault, array_known, array_fails}
use Rattle.us_mm.proofs.head.behind_array.Goals as goal

pub returns-in-Ok : goal.returns-in-Ok
returns-in-Ok c = λ line h. (array_known line (sym h ∙ c.in-Ok.is), refl)

pub returns-in-Err : goal.returns-in-Err
returns-in-Err c = λ line h. took_fault {A = Stage} (λ s. Knows s (line ∷ []) × (is_array s ≡ true)) true c.in-Err.fault (line ∷ []) (array_fails line c.in-Err.fault (sym h ∙ c.in-Err.is))
