use Rattle.std.proofs.Common.{pos, List, ℕ, ℤ, FitsSigned, w64, length, get_or, sym, subst, ap, ◌∙◌, arith, rules, [], take}
use Rattle.std.proofs.lemmas.Int.{to_z-of_z}
use Rattle.std.proofs.lemmas.List.Sorted.{length_permutation}
use Rattle.us_query.specs.Counts.{AreCounts, below}
use Rattle.us_query.proofs.Searching.{counting-bound, counting-end, counting-inside, counting-next, counting-none}
use Rattle.us_query.proofs.counting.counts_in.Goals as goal

pub loop-at-init : goal.loop-at-init
loop-at-init c = (
  c.below-place.ensures,
  subst (λ (l : List ℕ). AreCounts c.args.numbers.now [] l) (sym c.in_ok-counts.ensures)
      (counting-none c.args.numbers.now (length c.args.sorted.now) (length_permutation c.args.numbers.now c.args.sorted.now c.requires.permutation)),
)

pub below_after-place-requires-clause-inside : goal.below_after-place-requires-clause-inside
below_after-place-requires-clause-inside c = omega (arith, c.loop-at-test.true, length_permutation c.args.numbers.now c.args.sorted.now c.requires.permutation)

pub index_mut-requires : goal.index_mut-requires
index_mut-requires c =
    omega (
      arith,
      counting-inside c.args.numbers.now c.args.sorted.now c.requires.permutation c.loop-at.at (pos 0) c.loop-at-test.true c.loop-at.counts.items c.below_after-place.result c.below_after-place.ensures (take c.loop-at.at c.args.numbers.now) c.loop-at.invariant.1,
      c.loop-at.counts.ok.0,
    )

pub overflow_add-index_mut : goal.overflow_add-index_mut
overflow_add-index_mut c =
    record {
      fits = omega (
        arith,
        c.requires.few,
        c.loop-at-test.true,
        counting-bound c.args.numbers.now c.args.sorted.now c.requires.permutation c.loop-at.at (pos 0) c.loop-at-test.true c.loop-at.counts.items c.below_after-place.result c.below_after-place.ensures c.loop-at.invariant.1 c.index_mut.result.now _ c.index_mut.ensures.value,
      );
    }

pub loop-at-preserved : goal.loop-at-preserved
loop-at-preserved c =
    let x : ℤ = get_or c.args.numbers.now c.loop-at.at (pos 0) in
    let h : FitsSigned w64 x = search rules in (
      c.below_after-place.ensures ∙ ap (λ (z : ℤ). below c.args.sorted.now z) (sym (to_z-of_z w64 x h)),
      counting-next c.args.numbers.now c.args.sorted.now c.requires.permutation c.loop-at.at (pos 0) c.loop-at-test.true c.loop-at.counts.items c.below_after-place.result c.below_after-place.ensures c.loop-at.invariant.1 c.index_mut.result.now _ c.index_mut.ensures.value,
    )

pub returns : goal.returns
returns c = counting-end c.args.numbers.now c.loop-at.at c.loop-at.counts.items c.loop-at-test.false c.loop-at.invariant.1
