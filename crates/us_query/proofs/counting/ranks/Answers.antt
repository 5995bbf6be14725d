use Rattle.std.proofs.Common.{ℤ, List, sym, subst}
use Rattle.std.specs.List.Sorted.{IsPermutation, IsSorted}
use Rattle.std.specs.Ordering.{int_cmp}
use Rattle.us_query.proofs.counting.ranks.Goals as goal

pub ranks_in-requires-clause-permutation : goal.ranks_in-requires-clause-permutation
ranks_in-requires-clause-permutation c = subst (λ (l : List ℤ). IsPermutation c.args.numbers.now l) (sym c.deref.ensures.value) c.in_ok-sorted.ensures.permutation

pub ranks_in-requires-clause-order : goal.ranks_in-requires-clause-order
ranks_in-requires-clause-order c = subst (λ (l : List ℤ). IsSorted int_cmp l) (sym c.deref.ensures.value) c.in_ok-sorted.ensures.order
