use Rattle.std.proofs.Common.{rules}
use Rattle.std.proofs.lemmas.Fn.{always_returns_same}
use Rattle.us_code.specs.Sort.{before}
use Rattle.us_machine.specs.Sorting.{lists_at}
use Rattle.us_machine.proofs.Sortings.{weak_order, are_ordered}
use Rattle.us_machine.proofs.sorting.sorted_by_comparing.Goals as goal

pub returns : goal.returns
returns c =
    let keys = lists_at c.args.region.now.lists c.args.segs.now in
    are_ordered keys c.args.len c.in_ok-places.places.items c.sort_unstable_by.new.self.items c.in_ok-places.ensures c.sort_unstable_by.ensures.permutation
    (c.sort_unstable_by.ensures.sorted (before keys) (weak_order keys) (always_returns_same _ _ _ (λ a r g h. (search rules, search rules))))
