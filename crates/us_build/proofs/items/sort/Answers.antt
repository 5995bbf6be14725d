use Rattle.std.proofs.Common.{rules}
use Rattle.std.proofs.lemmas.List.Sorted.{answers_always}
use Rattle.us_build.proofs.Sorting.{before, before-order}
use Rattle.us_build.proofs.items.sort.Goals as goal

pub returns-clause-sorted : goal.returns-clause-sorted
returns-clause-sorted c = c.sort_unstable_by.ensures.sorted before before-order (answers_always _ _ _ (λ f a r g h. search rules))
