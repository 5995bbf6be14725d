use Rattle.std.proofs.Common.{ℤ, List, sym, subst, ap, arith, length}
use Rattle.std.specs.List.Sorted.{IsPermutation, IsSorted}
use Rattle.std.specs.Ordering.{int_cmp}
use Rattle.us_query.proofs.counting.totals.Goals as goal

pub totals_in-requires-clause-few : goal.totals_in-requires-clause-few
totals_in-requires-clause-few c = omega (arith, c.requires, ap (λ (l : List ℤ). length l) c.deref.ensures.value, c.in_ok-sorted.ensures.len)

pub totals_in-requires-clause-permutation : goal.totals_in-requires-clause-permutation
totals_in-requires-clause-permutation c = subst (λ (l : List ℤ). IsPermutation c.args.numbers.now l) (sym c.deref.ensures.value) c.in_ok-sorted.ensures.permutation

pub totals_in-requires-clause-order : goal.totals_in-requires-clause-order
totals_in-requires-clause-order c = subst (λ (l : List ℤ). IsSorted int_cmp l) (sym c.deref.ensures.value) c.in_ok-sorted.ensures.order
