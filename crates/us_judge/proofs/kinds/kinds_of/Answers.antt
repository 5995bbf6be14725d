use Rattle.std.proofs.Common.{[], ◌∷◌, ◌++◌, map, ap, sym, ◌∙◌}
use Rattle.std.specs.List.{range_with_len}
use Rattle.us_format.specs.Kinds.{kind}
use Rattle.us_judge.specs.Views.{plain_part}
use Rattle.us_judge.proofs.Looseness.{map-range-suc}
use Rattle.us_judge.proofs.kinds.kinds_of.Goals as goal

pub loop-level-preserved : goal.loop-level-preserved
loop-level-preserved c =
    c.in_ok-push.ensures.ok
    ∙ ap (λ ks. ks ++ (c.in_ok-kind_of.field-0 ∷ [])) c.loop-level.invariant
    ∙ ap (λ k. map (kind (plain_part c.args.part.now)) (range_with_len 0 c.loop-level.level) ++ (k ∷ [])) c.in_ok-kind_of.ensures
    ∙ sym (map-range-suc (kind (plain_part c.args.part.now)) c.loop-level.level)
