use Rattle.std.proofs.Common.{refl}
use Rattle.std.specs.Prelude.{slice_index_or}
use Rattle.us_expr.specs.Tree.{RowIndex}
use Rattle.us_format.specs.Program.{plain_shape}
use Rattle.us_judge.specs.Format.{part_at}
use Rattle.us_judge.specs.Views.{declaration_of, plain_part}
use Rattle.us_gen_parts.proofs.LevelPlaces.{level-is}
use Rattle.us_gen_parts.proofs.PartThere.{level-near, level-there, none-few}
use Rattle.us_gen_parts.proofs.places.level_place.Goals as goal
use Rattle.std.proofs.Common.{◌-◌, sym, ◌∙◌, ap}
use Rattle.us_format.specs.Kinds.{kind}
use Rattle.us_format.specs.Declaration.{Part}

pub kind-kind-requires-clause-level : goal.kind-kind-requires-clause-level
kind-kind-requires-clause-level c = level-there c.args.format.now c.args.number (plain_part c.args.part.now) c.args.level c.requires.part c.requires.level

pub level_range-range-requires-clause-level : goal.level_range-range-requires-clause-level
level_range-range-requires-clause-level c = level-there c.args.format.now c.args.number (plain_part c.args.part.now) c.args.level c.requires.part c.requires.level

pub place_by-requires-clause-kind : goal.place_by-requires-clause-kind
place_by-requires-clause-kind c = c.kind-kind.ensures ∙ ap (λ (q : Part). kind q c.args.level) (sym c.requires.part.is)

pub place_by-requires-clause-lo : goal.place_by-requires-clause-lo
place_by-requires-clause-lo c =
    (level-near c.args.format.now c.args.number (plain_part c.args.part.now) c.args.level (plain_shape c.args.shape) c.requires.part c.requires.level c.requires.rows c.requires.cols c.level_range-range.result c.level_range-range.ensures).0

pub place_by-requires-clause-hi : goal.place_by-requires-clause-hi
place_by-requires-clause-hi c =
    (level-near c.args.format.now c.args.number (plain_part c.args.part.now) c.args.level (plain_shape c.args.shape) c.requires.part c.requires.level c.requires.rows c.requires.cols c.level_range-range.result c.level_range-range.ensures).1

pub returns : goal.returns
returns c =
    c.place_by.ensures
    ∙ level-is c.args.start (plain_shape c.args.shape) (plain_part c.args.part.now) (part_at (declaration_of c.args.format.now) (c.args.number - 1)) c.args.level c.counted_at-counted.result c.level_range-range.result c.kind-kind.result
    (slice_index_or (plain_part c.args.part.now).levels c.args.level RowIndex) c.requires.part.is refl c.counted_at-counted.ensures.is c.level_range-range.ensures c.kind-kind.ensures

pub level_range-range-requires-clause-extents : goal.level_range-range-requires-clause-extents
level_range-range-requires-clause-extents c = none-few
