use Rattle.std.proofs.Common.{◌≡◌, ℕ, List, IfOk, refl, subst}
use Rattle.std.specs.List.{range_with_len}
use Rattle.us_code.specs.Sort.{ordered}
use Rattle.us_machine.specs.Sorting.{lists_at}
use Rattle.us_machine.proofs.Sortings.{stay_ordered}
use Rattle.us_machine.proofs.sorting.sorted.Goals as goal

pub returns-then-is_in_order : goal.returns-then-is_in_order
returns-then-is_in_order c =
    let keys = lists_at c.args.region.now.lists c.args.segs.now in
    let n = c.args.len in
    let e : range_with_len 0 n ≡ ordered keys n = stay_ordered keys n (range_with_len 0 n) refl (c.is_in_order.ensures.ascends c.if-is_in_order.true) in
    subst (λ (xs : List ℕ). IfOk c.places_below.result (λ v. v.items ≡ xs)) e c.places_below.ensures
