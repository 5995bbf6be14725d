use Rattle.std.proofs.Common.{◌^◌, ◌-◌, ℤ, w64, sym, subst, ◌∙◌, arith}
use Rattle.std.proofs.lemmas.Int.{to_z-of_z}
use Rattle.us_expr.specs.Range.{IsNear}
use Rattle.us_expr.proofs.Bounds.{near_fits}
use Rattle.us_format.specs.Program.{plain_shape}
use Rattle.us_judge.specs.Format.{part_at}
use Rattle.us_judge.specs.Views.{declaration_of, plain_part}
use Rattle.us_gen_parts.proofs.PartThere.{level-near, level-there, none-few}
use Rattle.us_gen_parts_build.proofs.Making.{low-made}
use Rattle.us_gen_parts_build.proofs.levels.low_at.Goals as goal

pub level_range-range-requires-clause-level : goal.level_range-range-requires-clause-level
level_range-range-requires-clause-level c = level-there c.args.format.now c.args.number (plain_part c.args.part.now) c.args.level c.requires.part c.requires.level

pub level_range-range-requires-clause-extents : goal.level_range-range-requires-clause-extents
level_range-range-requires-clause-extents c = none-few

pub returns-clause-is : goal.returns-clause-is
returns-clause-is c =
    let near = level-near c.args.format.now c.args.number (plain_part c.args.part.now) c.args.level (plain_shape c.args.shape) c.requires.part c.requires.level c.requires.rows c.requires.cols c.level_range-range.result c.level_range-range.ensures in
    to_z-of_z w64 c.level_range-range.result.lo (near_fits 64 c.level_range-range.result.lo (omega arith) near.0)
    ∙ low-made (plain_shape c.args.shape) (plain_part c.args.part.now) (part_at (declaration_of c.args.format.now) (c.args.number - 1)) c.args.level c.level_range-range.result c.requires.part.is c.level_range-range.ensures

pub returns-clause-near : goal.returns-clause-near
returns-clause-near c =
    let near = level-near c.args.format.now c.args.number (plain_part c.args.part.now) c.args.level (plain_shape c.args.shape) c.requires.part c.requires.level c.requires.rows c.requires.cols c.level_range-range.result c.level_range-range.ensures in
    subst (λ (z : ℤ). IsNear (2 ^ 37) z) (sym (to_z-of_z w64 c.level_range-range.result.lo (near_fits 64 c.level_range-range.result.lo (omega arith) near.0))) near.0
