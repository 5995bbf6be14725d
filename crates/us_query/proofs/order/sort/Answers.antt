use Rattle.std.proofs.Common.{rules}
use Rattle.std.proofs.lemmas.List.Sorted.{answers_always}
use Rattle.us_query.specs.Ranked.{goes_before}
use Rattle.us_query.proofs.Ranking.{before-order}
use Rattle.us_query.proofs.order.sort.Goals as goal

pub returns-clause-sorted : goal.returns-clause-sorted
returns-clause-sorted c = c.sort_unstable_by.ensures.sorted goes_before before-order (answers_always _ _ _ (λ f a r g h. search rules))
