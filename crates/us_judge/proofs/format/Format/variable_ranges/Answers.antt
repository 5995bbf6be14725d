use Rattle.std.proofs.Common.{◌<◌, ◌≤◌, ◌-◌, length, sym, subst, ap, ◌∙◌, arith}
use Rattle.us_format.specs.Coordinates.{variable_ranges}
use Rattle.us_format.specs.Declaration.{Part}
use Rattle.us_judge.specs.Views.{declaration_of}
use Rattle.us_judge.proofs.NamesBelow.{names-valid}
use Rattle.us_judge.proofs.format.Format.variable_ranges.Goals as goal

pub ranges_of-requires-clause-names : goal.ranges_of-requires-clause-names
ranges_of-requires-clause-names c =
    let below : c.args.part - 1 < length (declaration_of c.args.self.now).parts = omega (arith, c.requires.from_one, c.requires.part) in
    subst (λ (p : Part). p.names ≤ 32) (sym c.part.ensures.is) (names-valid c.args.self.now c.part.ensures.valid (c.args.part - 1) _ below).few

pub returns-clause-vars : goal.returns-clause-vars
returns-clause-vars c =
    c.ranges_of.ensures.vars
    ∙ ap (λ (p : Part). variable_ranges (record { rows = c.args.shape_rows; cols = c.args.shape_cols }) c.args.extents.now p) c.part.ensures.is
