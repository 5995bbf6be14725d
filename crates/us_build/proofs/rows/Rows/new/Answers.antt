use Rattle.std.proofs.Common.{◌≡◌, ℕ, ◌<◌, ◌^◌, List, length, map, ap, ap₂, sym, subst, ◌∙◌}
use Rattle.std.specs.List.Sorted.{IsPermutation}
use Rattle.us_expr.specs.Tree.{tree}
use Rattle.us_expr.specs.declared.ranges.Range.{Range}
use Rattle.us_format.specs.Program.{plain_shape}
use Rattle.us_build.specs.Levels.{HaveCoordinates, items_over, levels_over}
use Rattle.us_build.specs.Ranges.{ranges_in}
use Rattle.us_build.specs.declared.levels.Level.{Level}
use Rattle.us_build.proofs.Whole.{are-rows, extents-long, extents-small, have-coordinates, kinds-long, levels-long, rangeable}
use Rattle.us_build.proofs.rows.Rows.new.Goals as goal

pub ranges_of-ranges-requires-clause-extents : goal.ranges_of-ranges-requires-clause-extents
ranges_of-ranges-requires-clause-extents c = extents-long c.args.levels.now c.args.kinds.now c.args.queries.now c.args.variables.now c.args.shape c.args.entries.now c.requires

pub ranges_of-ranges-requires-clause-small : goal.ranges_of-ranges-requires-clause-small
ranges_of-ranges-requires-clause-small c = extents-small c.args.levels.now c.args.kinds.now c.args.queries.now c.args.variables.now c.args.shape c.args.entries.now c.requires

pub levels_for-requires-clause-kinds : goal.levels_for-requires-clause-kinds
levels_for-requires-clause-kinds c = kinds-long c.args.levels.now c.args.kinds.now c.args.queries.now c.args.variables.now c.args.shape c.args.entries.now c.requires

pub levels_for-requires-clause-rangeable : goal.levels_for-requires-clause-rangeable
levels_for-requires-clause-rangeable c =
    rangeable c.args.levels.now c.args.kinds.now c.args.queries.now c.args.variables.now c.args.shape c.args.entries.now c.requires c.ranges_of-ranges.result.vars.items c.ranges_of-ranges.ensures.vars

pub levels_for-requires-clause-rows : goal.levels_for-requires-clause-rows
levels_for-requires-clause-rows c = subst (λ (n : ℕ). n < 2 ^ 31) (sym c.ranges_of-ranges.ensures.rows) c.requires.rows.high

pub levels_for-requires-clause-cols : goal.levels_for-requires-clause-cols
levels_for-requires-clause-cols c = subst (λ (n : ℕ). n < 2 ^ 31) (sym c.ranges_of-ranges.ensures.cols) c.requires.cols.high

pub sorted_items-requires-clause-levels : goal.sorted_items-requires-clause-levels
sorted_items-requires-clause-levels c =
    let is : c.in_ok-made.made.items ≡ levels_over c.args.shape.rows c.args.shape.cols (ranges_in (plain_shape c.args.shape) c.args.queries.now c.args.variables.now) (map tree c.args.levels.now) c.args.kinds.now =
    c.in_ok-made.ensures.levels
    ∙ ap₂ (λ (m n : ℕ). levels_over m n c.ranges_of-ranges.result.vars.items (map tree c.args.levels.now) c.args.kinds.now) c.ranges_of-ranges.ensures.rows c.ranges_of-ranges.ensures.cols
    ∙ ap (λ (rs : List Range). levels_over c.args.shape.rows c.args.shape.cols rs (map tree c.args.levels.now) c.args.kinds.now) c.ranges_of-ranges.ensures.vars in
    ap length c.deref.ensures.value ∙ levels-long c.args.levels.now c.args.kinds.now c.args.queries.now c.args.variables.now c.args.shape c.args.entries.now c.requires c.in_ok-made.made.items is

pub sorted_items-requires-clause-placed : goal.sorted_items-requires-clause-placed
sorted_items-requires-clause-placed c =
    let is : c.in_ok-made.made.items ≡ levels_over c.args.shape.rows c.args.shape.cols (ranges_in (plain_shape c.args.shape) c.args.queries.now c.args.variables.now) (map tree c.args.levels.now) c.args.kinds.now =
    c.in_ok-made.ensures.levels
    ∙ ap₂ (λ (m n : ℕ). levels_over m n c.ranges_of-ranges.result.vars.items (map tree c.args.levels.now) c.args.kinds.now) c.ranges_of-ranges.ensures.rows c.ranges_of-ranges.ensures.cols
    ∙ ap (λ (rs : List Range). levels_over c.args.shape.rows c.args.shape.cols rs (map tree c.args.levels.now) c.args.kinds.now) c.ranges_of-ranges.ensures.vars in
    subst (λ (ls : List Level). HaveCoordinates c.args.levels.now ls c.args.variables.now c.args.entries.now) (sym c.deref.ensures.value)
    (have-coordinates c.args.levels.now c.args.kinds.now c.args.queries.now c.args.variables.now c.args.shape c.args.entries.now c.requires c.in_ok-made.made.items is)

pub returns : goal.returns
returns c =
    let is : c.in_ok-made.made.items ≡ levels_over c.args.shape.rows c.args.shape.cols (ranges_in (plain_shape c.args.shape) c.args.queries.now c.args.variables.now) (map tree c.args.levels.now) c.args.kinds.now =
    c.in_ok-made.ensures.levels
    ∙ ap₂ (λ (m n : ℕ). levels_over m n c.ranges_of-ranges.result.vars.items (map tree c.args.levels.now) c.args.kinds.now) c.ranges_of-ranges.ensures.rows c.ranges_of-ranges.ensures.cols
    ∙ ap (λ (rs : List Range). levels_over c.args.shape.rows c.args.shape.cols rs (map tree c.args.levels.now) c.args.kinds.now) c.ranges_of-ranges.ensures.vars in
    are-rows c.args.levels.now c.args.kinds.now c.args.queries.now c.args.variables.now c.args.shape c.args.entries.now c.requires c.in_ok-made.made.items c.in_ok-items.items.items is c.in_ok-made.ensures.sizes
    (λ f h. subst (λ (ls : List Level). IsPermutation (items_over (map tree c.args.levels.now) ls f c.args.entries.now) c.in_ok-items.items.items) c.deref.ensures.value (c.in_ok-items.ensures.permutation f h))
    c.in_ok-items.ensures.sorted
