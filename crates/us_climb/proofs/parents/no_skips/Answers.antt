use Rattle.std.proofs.Common.{ℕ, List, ◌++◌, ◌∷◌, [], ap, sym, ◌∙◌, add-one}
use Rattle.std.specs.List.{range_with_len}
use Rattle.us_judge.proofs.Looseness.{range-suc}
use Rattle.us_climb.proofs.parents.no_skips.Goals as goal

pub loop-x-preserved : goal.loop-x-preserved
loop-x-preserved c =
    c.in_ok-push.ensures.items ∙ ap (λ (xs : List ℕ). xs ++ c.loop-x.x ∷ []) c.loop-x.invariant
    ∙ sym (range-suc c.loop-x.x) ∙ ap (range_with_len 0) (sym (add-one c.loop-x.x))
