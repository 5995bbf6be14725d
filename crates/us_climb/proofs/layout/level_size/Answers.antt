use Rattle.std.proofs.Common.{◌^◌, ◌<◌, ◌-◌, length, subst, sym, arith}
use Rattle.us_expr.specs.declared.ranges.Range.{Range}
use Rattle.us_expr.specs.Range.{IsNear}
use Rattle.us_format.specs.Program.{plain_shape}
use Rattle.us_judge.specs.Views.{declaration_of}
use Rattle.us_climb.proofs.LevelSizes.{level-near}
use Rattle.us_climb.proofs.layout.level_size.Goals as goal

pub span-requires-clause-lo : goal.span-requires-clause-lo
span-requires-clause-lo c =
    let below : c.args.part - 1 < length (declaration_of c.args.format.now).parts = omega (arith, c.requires.from_one, c.requires.part) in
    subst (λ (r : Range). IsNear (2 ^ 37) r.lo) (sym c.level_range.ensures)
    (level-near c.args.format.now (c.args.part - 1) c.args.level (plain_shape c.args.shape) c.args.extents.now
    (record { valid = c.requires.accepted.valid; accepted = c.requires.accepted.kept; part = below; level = c.requires.level }) c.requires.rows c.requires.cols c.requires.extents).0

pub span-requires-clause-hi : goal.span-requires-clause-hi
span-requires-clause-hi c =
    let below : c.args.part - 1 < length (declaration_of c.args.format.now).parts = omega (arith, c.requires.from_one, c.requires.part) in
    subst (λ (r : Range). IsNear (2 ^ 37) r.hi) (sym c.level_range.ensures)
    (level-near c.args.format.now (c.args.part - 1) c.args.level (plain_shape c.args.shape) c.args.extents.now
    (record { valid = c.requires.accepted.valid; accepted = c.requires.accepted.kept; part = below; level = c.requires.level }) c.requires.rows c.requires.cols c.requires.extents).1
