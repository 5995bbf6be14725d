use Rattle.std.proofs.Common.{◌*◌, ℕ, List, length, map, pos, ap, ◌∙◌, arith}
use Rattle.std.specs.List.{range_with_len}
use Rattle.std.proofs.lemmas.List.FromFn.{length-map-range_with_len}
use Rattle.std.proofs.lemmas.Result.{IfOk-weaker}
use Rattle.std.proofs.lemmas.Simd.{map-map}
use Rattle.us_query.specs.Lanes.{cell_in, extent_in}
use Rattle.us_variables.proofs.tables.lane_cells.Goals as goal

pub rows-requires : goal.rows-requires
rows-requires c =
    let lanes : List (List ℕ) = c.args.table.now.lanes in
    omega (arith, c.requires, length-map-range_with_len (λ (x : ℕ). pos (cell_in lanes x)) 0 (length lanes * extent_in lanes))

pub returns : goal.returns
returns c =
    let lanes : List (List ℕ) = c.args.table.now.lanes in
    IfOk-weaker c.signed.result _ _
    (λ v h. h ∙ ap (map pos) (c.deref.ensures.value ∙ c.in_ok-rows.ensures) ∙ map-map pos (cell_in lanes) (range_with_len 0 (length lanes * extent_in lanes)))
    c.signed.ensures
