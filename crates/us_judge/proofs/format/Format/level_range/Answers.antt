use Rattle.std.proofs.Common.{◌≡◌, ◌<◌, ◌-◌, length, slice_index_or, refl, ap, ◌∙◌, arith}
use Rattle.us_expr.specs.Tree.{tree, RowIndex}
use Rattle.us_format.specs.Declaration.{Part}
use Rattle.us_judge.specs.Views.{declaration_of}
use Rattle.us_judge.proofs.Accepted.{level_at}
use Rattle.us_judge.proofs.VariableRanges.{level-has_range}
use Rattle.us_judge.proofs.format.Format.level_range.Goals as goal

pub range_of-requires-clause-valid : goal.range_of-requires-clause-valid
range_of-requires-clause-valid c =
    let d = c.args.self.now in
    let below : c.args.part - 1 < length (declaration_of c.args.self.now).parts = omega (arith, c.requires.from_one, c.requires.part) in
    let is : tree c.expression_of.result.now ≡ level_at d (c.args.part - 1) c.args.level =
    c.expression_of.ensures ∙ ap (λ (x : Part). slice_index_or x.levels c.args.level RowIndex) c.part.ensures.is in
    rw (c.variable_ranges-ranges.ensures.vars, is)
    (level-has_range d (c.args.part - 1) c.args.level (record { valid = c.part.ensures.valid; accepted = c.part.ensures.accepted; part = below; level = c.requires.level })
    (record { rows = c.args.shape_rows; cols = c.args.shape_cols }) c.args.extents.now c.requires.rows c.requires.cols c.requires.extents)

pub returns : goal.returns
returns c =
    let is : tree c.expression_of.result.now ≡ level_at c.args.self.now (c.args.part - 1) c.args.level =
    c.expression_of.ensures ∙ ap (λ (x : Part). slice_index_or x.levels c.args.level RowIndex) c.part.ensures.is in
    c.range_of.ensures
    ∙ rw (c.variable_ranges-ranges.ensures.rows, c.variable_ranges-ranges.ensures.cols, c.variable_ranges-ranges.ensures.vars, is) refl
