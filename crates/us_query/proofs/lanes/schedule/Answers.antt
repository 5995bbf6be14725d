use Rattle.std.proofs.Common.{◌≡◌, ◌∙◌, ℕ, map, length, ap, sym, arith}
use Rattle.std.specs.List.{range_with_len}
use Rattle.std.proofs.lemmas.Result.{IfOk-weaker}
use Rattle.us_format.specs.Matrix.{indices}
use Rattle.us_format.specs.Program.{entries_in, shape_in}
use Rattle.us_format.specs.Queries.{weight}
use Rattle.us_query.specs.Lanes.{AreWeights, Lanes, lanes_after}
use Rattle.us_query.proofs.Ranking.{weights-long}
use Rattle.us_query.proofs.lanes.schedule.Goals as goal

pub table-requires-clause-few : goal.table-requires-clause-few
table-requires-clause-few c =
    omega (arith, c.requires.few, weights-long (entries_in c.args.matrix.now) (shape_in c.args.matrix.now) c.args.axis c.deref.result.now (c.deref.ensures.value ∙ c.in_ok-weights.ensures.weights))

pub returns : goal.returns
returns c =
    let m = entries_in c.args.matrix.now in
    let s = shape_in c.args.matrix.now in
    let axis = c.args.axis in
    let ws = c.deref.result.now in
    let made : ws ≡ map (weight m axis) (range_with_len 0 (indices axis s)) = c.deref.ensures.value ∙ c.in_ok-weights.ensures.weights in
    let long : length ws ≡ indices axis s = weights-long m s axis ws made in
    let are : AreWeights m axis ws = made ∙ ap (λ (n : ℕ). map (weight m axis) (range_with_len 0 n)) (sym long) in
    IfOk-weaker c.table.result _ _
    (λ (t : Lanes) h. h m axis are ∙ ap (λ (n : ℕ). record { lanes = lanes_after m axis c.args.lanes n; count = n }) long)
    c.table.ensures
