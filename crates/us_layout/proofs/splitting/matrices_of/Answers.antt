use Rattle.std.proofs.Common.{◌++◌, [], ◌∷◌, List, ap₂, sym, ◌∙◌, arith}
use Rattle.std.proofs.lemmas.List.FromFn.{map-range_with_len_more}
use Rattle.us_matrix.specs.Map.{Map}
use Rattle.us_layout.specs.Splitting.{share_in}
use Rattle.us_layout.proofs.splitting.matrices_of.Goals as goal

pub loop-part-preserved : goal.loop-part-preserved
loop-part-preserved c =
    c.in_ok-push.ensures.items ∙ ap₂ (λ (xs : List Map) (x : Map). xs ++ x ∷ []) c.loop-part.invariant c.in_ok-matrix_of.ensures
    ∙ sym (map-range_with_len_more (share_in c.args.matrix.now c.args.parts.now) 0 c.loop-part.part c.loop-part.part (omega arith))
