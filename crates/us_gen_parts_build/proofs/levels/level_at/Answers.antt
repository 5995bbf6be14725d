use Rattle.std.proofs.Common.{◌-◌, arith}
use Rattle.us_format.specs.Program.{plain_shape}
use Rattle.us_judge.specs.Format.{part_at}
use Rattle.us_judge.specs.Views.{declaration_of, plain_part}
use Rattle.us_gen_parts.proofs.PartThere.{level-near, level-there, none-few}
use Rattle.us_gen_parts_build.proofs.Making.{level-made}
use Rattle.us_gen_parts_build.proofs.levels.level_at.Goals as goal

pub kind-kind-requires-clause-level : goal.kind-kind-requires-clause-level
kind-kind-requires-clause-level c = level-there c.args.format.now c.args.number (plain_part c.args.part.now) c.args.level c.requires.part c.requires.level

pub bound_at-bound-requires-clause-queries : goal.bound_at-bound-requires-clause-queries
bound_at-bound-requires-clause-queries c = omega (arith, c.requires.dims, c.requires.part.short.queries)

pub level_range-range-requires-clause-level : goal.level_range-range-requires-clause-level
level_range-range-requires-clause-level c = level-there c.args.format.now c.args.number (plain_part c.args.part.now) c.args.level c.requires.part c.requires.level

pub level_range-range-requires-clause-extents : goal.level_range-range-requires-clause-extents
level_range-range-requires-clause-extents c = none-few

pub size_by-size-requires-clause-lo : goal.size_by-size-requires-clause-lo
size_by-size-requires-clause-lo c =
    (level-near c.args.format.now c.args.number (plain_part c.args.part.now) c.args.level (plain_shape c.args.shape) c.requires.part c.requires.level c.requires.rows c.requires.cols c.level_range-range.result c.level_range-range.ensures).0

pub size_by-size-requires-clause-hi : goal.size_by-size-requires-clause-hi
size_by-size-requires-clause-hi c =
    (level-near c.args.format.now c.args.number (plain_part c.args.part.now) c.args.level (plain_shape c.args.shape) c.requires.part c.requires.level c.requires.rows c.requires.cols c.level_range-range.result c.level_range-range.ensures).1

pub returns : goal.returns
returns c =
    level-made (plain_shape c.args.shape) (plain_part c.args.part.now) (part_at (declaration_of c.args.format.now) (c.args.number - 1)) c.args.dim c.args.level c.args.column c.bound_at-bound.result
    c.level_range-range.result c.kind-kind.result c.size_by-size.result c.requires.part.is c.bound_at-bound.ensures c.level_range-range.ensures c.kind-kind.ensures c.size_by-size.ensures
