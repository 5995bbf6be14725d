use Rattle.std.proofs.Common.{ℤ, List, ap, ◌∙◌}
use Rattle.std.proofs.lemmas.Result.{IfOk-weaker}
use Rattle.us_expr.specs.Tree.{tree}
use Rattle.us_query.specs.Counts.{ranks}
use Rattle.us_query.proofs.EntryCounts.{ranks-are}
use Rattle.us_query.proofs.numbers.enumerate.Goals as goal

pub returns : goal.returns
returns c =
    IfOk-weaker c.ranks.result _ _ (λ ns h. h ∙ ap (λ (l : List ℤ). ranks l) (c.deref.ensures.value ∙ c.in_ok-values.ensures.values) ∙ ranks-are (tree c.args.e.now) c.args.matrix.now c.in_ok-values.ensures.matrix) c.ranks.ensures
