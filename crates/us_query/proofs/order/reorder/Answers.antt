use Rattle.std.proofs.Common.{◌≡◌, ℕ, List, sym, map, length, arith, subst, ap, ◌∙◌}
use Rattle.std.specs.List.{range_with_len}
use Rattle.std.specs.List.Sorted.{IsPermutation}
use Rattle.std.proofs.lemmas.List.{take_at}
use Rattle.std.proofs.lemmas.Result.{IfOk-weaker}
use Rattle.us_format.specs.Matrix.{indices}
use Rattle.us_format.specs.Program.{entries_in, shape_in}
use Rattle.us_query.specs.declared.order.Weighted.{Weighted}
use Rattle.us_query.specs.Ranked.{AreRanked}
use Rattle.us_query.proofs.Ranking.{made-own, own, ranked, table-is, weights-long}
use Rattle.us_query.proofs.order.reorder.Goals as goal

pub with_weights-requires : goal.with_weights-requires
with_weights-requires c =
    omega (arith, c.requires, weights-long (entries_in c.args.matrix.now) (shape_in c.args.matrix.now) c.args.axis c.deref.result.now (c.deref.ensures.value ∙ c.in_ok-weights.ensures.weights))

pub returns : goal.returns
returns c =
    let m = entries_in c.args.matrix.now in
    let s = shape_in c.args.matrix.now in
    let axis = c.args.axis in
    let rs : List Weighted = c.sort.new.weighted in
    let made : c.deref_mut.result.now ≡ map (own m s axis) (range_with_len 0 (indices axis s)) =
    c.deref_mut.ensures.value ∙ c.in_ok-weighted.ensures ∙ made-own m s axis c.deref.result.now (c.deref.ensures.value ∙ c.in_ok-weights.ensures.weights) in
    let moved : IsPermutation (map (own m s axis) (range_with_len 0 (indices axis s))) rs = subst (λ (l : List Weighted). IsPermutation l rs) made c.sort.ensures.permutation in
    let full : length rs ≡ c.in_ok-weighted.weighted.len = omega (arith, c.sort.auto.weighted, c.deref_mut.ensures.len) in
    let items : c.deref-2.result.now ≡ rs = c.deref-2.ensures.value ∙ take_at rs _ _ full in
    record {
      order = IfOk-weaker c.indices_of.result _ _ (λ ns h. h ∙ ap (λ (l : List Weighted). map (λ (r : Weighted). r.index) l) items ∙ table-is m s axis rs moved c.sort.ensures.sorted) c.indices_of.ensures;
      ranks = IfOk-weaker c.indices_of.result _ _
          (λ ns h. subst (λ (l : List ℕ). AreRanked m s axis l) (sym (h ∙ ap (λ (l : List Weighted). map (λ (r : Weighted). r.index) l) items)) (ranked m s axis rs moved c.sort.ensures.sorted))
          c.indices_of.ensures;
    }
