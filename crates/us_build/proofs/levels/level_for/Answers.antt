use Rattle.std.proofs.Common.{ℕ, ℤ, FitsSigned, w64, sym, subst, ap, ◌∙◌, rules}
use Rattle.us_expr.specs.Range.{IsNear}
use Rattle.us_expr.specs.Tree.{tree}
use Rattle.us_expr.specs.declared.ranges.Range.{Range}
use Rattle.us_format.specs.Coordinates.{span}
use Rattle.us_build.proofs.Casts.{to_z-kept}
use Rattle.us_build.proofs.Spans.{ends-near}
use Rattle.us_build.proofs.levels.level_for.Goals as goal

pub span_of-requires-clause-low : goal.span_of-requires-clause-low
span_of-requires-clause-low c =
    subst (λ (r : Range). IsNear 68719476736 r.lo) (sym c.range_of-range.ensures)
    (ends-near c.args.ranges.now.shape_rows c.args.ranges.now.shape_cols c.args.ranges.now.vars.items (tree c.args.e.now) c.requires.rows c.requires.cols c.requires.rangeable).0

pub span_of-requires-clause-high : goal.span_of-requires-clause-high
span_of-requires-clause-high c =
    subst (λ (r : Range). IsNear 68719476736 r.hi) (sym c.range_of-range.ensures)
    (ends-near c.args.ranges.now.shape_rows c.args.ranges.now.shape_cols c.args.ranges.now.vars.items (tree c.args.e.now) c.requires.rows c.requires.cols c.requires.rangeable).1

pub returns-clause-level : goal.returns-clause-level
returns-clause-level c =
    let f : FitsSigned w64 c.range_of-range.result.lo = search rules in
    ap (λ (z : ℤ). record { kind = c.args.kind; low = z; size = c.span_of.result }) (to_z-kept c.range_of-range.result.lo f)
    ∙ ap (λ (n : ℕ). record { kind = c.args.kind; low = c.range_of-range.result.lo; size = n }) c.span_of.ensures.span
    ∙ ap (λ (r : Range). record { kind = c.args.kind; low = r.lo; size = span r }) c.range_of-range.ensures
