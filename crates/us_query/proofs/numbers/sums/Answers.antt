use Rattle.std.proofs.Common.{ℤ, List, ap, ◌∙◌}
use Rattle.std.proofs.lemmas.Result.{IfOk-weaker}
use Rattle.us_expr.specs.Tree.{tree}
use Rattle.us_format.specs.Program.{entries_in}
use Rattle.us_query.specs.Counts.{totals}
use Rattle.us_query.proofs.EntryCounts.{totals-are}
use Rattle.us_query.proofs.numbers.sums.Goals as goal

pub returns : goal.returns
returns c =
    IfOk-weaker c.totals.result _ _ (λ ns h. h ∙ ap (λ (l : List ℤ). totals l) (c.deref.ensures.value ∙ c.in_ok-values.ensures.values) ∙ totals-are (tree c.args.e.now) (entries_in c.args.matrix.now)) c.totals.ensures
