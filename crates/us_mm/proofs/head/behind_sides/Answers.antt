use Rattle.std.proofs.Common.{sym, refl, ◌≡◌, ◌++◌, ◌∷◌, [], true, ◌∙◌}
use Rattle.us_mm.specs.declared.stage.Stage.{Stage}
use Rattle.us_mm.specs.Stages.{Knows, is_array}
use Rattle.us_mm.proofs.KnowsLemmas.{took_fault, array_skips, array_sizes, array_size_fails}
use Rattle.us_mm.proofs.head.behind_sides.Goals as goal

pub returns-then-skipped : goal.returns-then-skipped
returns-then-skipped c = λ n ls line h is skip g. (array_skips ls line h (sym skip ∙ c.if-skipped.true), refl)

pub returns-in-Ok : goal.returns-in-Ok
returns-in-Ok c = λ n ls line h is skip g.
    (rw c.new.ensures (array_sizes ls line n c.in-Ok.shape.rows c.in-Ok.shape.cols h (sym skip ∙ c.if-skipped.false) is (sym g ∙ c.in-Ok.is)), refl)

pub returns-in-Err : goal.returns-in-Err
returns-in-Err c = λ n ls line h is skip g.
    took_fault {A = Stage} (λ s. Knows s (ls ++ line ∷ []) × (is_array s ≡ true)) true c.in-Err.fault (ls ++ line ∷ [])
    (array_size_fails ls line n c.in-Err.fault h (sym skip ∙ c.if-skipped.false) is (sym g ∙ c.in-Err.is))
