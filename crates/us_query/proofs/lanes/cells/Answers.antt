use Rattle.std.proofs.Common.{◌≡◌, ◌/◌, ◌%◌, ◌<◌, ◌++◌, [], ◌∷◌, All, ℕ, List, Vec, Global, length, map, slice_get, ap, sym, ◌∙◌, arith, subst}
use Rattle.std.specs.List.{range_with_len}
use Rattle.std.proofs.lemmas.List.{length-map}
use Rattle.std.proofs.lemmas.List.FromFn.{map-range_with_len_more}
use Rattle.us_format.specs.Lists.{nth}
use Rattle.us_format.specs.Queries.{plus_one}
use Rattle.us_query.specs.Lanes.{cell_in, numbers_in}
use Rattle.us_query.proofs.Placing.{inside-lane, lane-at}
use Rattle.us_query.proofs.lanes.cells.Goals as goal

pub cell-requires : goal.cell-requires
cell-requires c =
    let l : ℕ = c.loop-x.x / c.args.extent in
    let inside : l < length c.args.lanes.now = inside-lane c.loop-x.x (length c.args.lanes.now) c.args.extent c.loop-x-test.true in
    subst (λ (lane : List ℕ). All (λ a. a < 67108864) lane) (sym (c.deref.ensures.value ∙ lane-at c.args.lanes.now l c.index-lanes-x.result inside c.index-lanes-x.is))
    (c.requires.below l [] (omega (arith, inside, length-map c.args.lanes.now (λ (v : Vec ℕ Global). v.items))))

pub loop-x-preserved : goal.loop-x-preserved
loop-x-preserved c =
    let n : List (List ℕ) = numbers_in c.args.lanes.now in
    let x : ℕ = c.loop-x.x in
    let l : ℕ = x / c.args.extent in
    let inside : l < length c.args.lanes.now = inside-lane c.loop-x.x (length c.args.lanes.now) c.args.extent c.loop-x-test.true in
    let here : c.cell.result ≡ cell_in n x =
    c.cell.ensures
    ∙ ap (λ (lane : List ℕ). plus_one (slice_get lane (x % c.args.extent))) (c.deref.ensures.value ∙ lane-at c.args.lanes.now l c.index-lanes-x.result inside c.index-lanes-x.is)
    ∙ ap (λ (e : ℕ). plus_one (slice_get (nth n (x / e)) (x % e))) c.requires.extent in
    c.in_ok-push.ensures.items ∙ ap (λ (xs : List ℕ). xs ++ c.cell.result ∷ []) c.loop-x.invariant ∙ ap (λ (y : ℕ). map (cell_in n) (range_with_len 0 x) ++ y ∷ []) here
    ∙ sym (map-range_with_len_more (cell_in n) 0 x x (omega arith))
