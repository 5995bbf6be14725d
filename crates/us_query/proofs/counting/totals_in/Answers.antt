use Rattle.std.proofs.Common.{pos, ℤ, FitsSigned, w64, get_or, sym, ap, ◌∙◌, arith, rules}
use Rattle.std.proofs.lemmas.Int.{to_z-of_z}
use Rattle.std.proofs.lemmas.List.Sorted.{length_permutation}
use Rattle.us_query.specs.Counts.{below}
use Rattle.us_query.proofs.Searching.{counting-inside, totals-next}
use Rattle.us_query.proofs.counting.totals_in.Goals as goal

pub below_after-place-requires-clause-inside : goal.below_after-place-requires-clause-inside
below_after-place-requires-clause-inside c = omega (arith, c.loop-at-test.true, length_permutation c.args.numbers.now c.args.sorted.now c.requires.permutation)

pub index-requires : goal.index-requires
index-requires c =
    omega (
      arith,
      counting-inside c.args.numbers.now c.args.sorted.now c.requires.permutation c.loop-at.at (pos 0) c.loop-at-test.true c.in_ok-counts.counts.items c.below_after-place.result c.below_after-place.ensures c.args.numbers.now c.in_ok-counts.ensures,
      c.in_ok-counts.counts.ok.0,
    )

pub loop-at-preserved : goal.loop-at-preserved
loop-at-preserved c =
    let x : ℤ = get_or c.args.numbers.now c.loop-at.at (pos 0) in
    let h : FitsSigned w64 x = search rules in (
      c.below_after-place.ensures ∙ ap (λ (z : ℤ). below c.args.sorted.now z) (sym (to_z-of_z w64 x h)),
      totals-next c.args.numbers.now c.args.sorted.now c.requires.permutation c.loop-at.at (pos 0) c.loop-at-test.true c.in_ok-counts.counts.items c.below_after-place.result c.below_after-place.ensures c.loop-at.totals.items c.push.new.self.items c.index.result.now _ c.in_ok-counts.ensures c.index.ensures c.in_ok-push.ensures.items c.loop-at.invariant.1,
    )
