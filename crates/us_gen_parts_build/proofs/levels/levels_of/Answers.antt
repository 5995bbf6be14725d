use Rattle.std.proofs.Common.{◌<◌, length, map, arith}
use Rattle.std.proofs.lemmas.List.{length-map}
use Rattle.us_expr.specs.Tree.{tree}
use Rattle.us_format.specs.Program.{plain_shape}
use Rattle.us_judge.specs.Views.{plain_part}
use Rattle.us_gen_parts_build.proofs.Making.{levels-none, levels-more, levels-all}
use Rattle.us_gen_parts_build.proofs.levels.levels_of.Goals as goal

pub loop-level-init : goal.loop-level-init
loop-level-init c = levels-none (plain_shape c.args.shape) (plain_part c.args.part.now) c.args.dim c.args.columns.now _ c.new-levels.ensures.items

pub level_at-next-requires-clause-level : goal.level_at-next-requires-clause-level
level_at-next-requires-clause-level c = omega (arith, length-map c.args.part.now.levels tree, c.loop-level-test.true, c.len-level-end.ensures)

pub bounds-columns-level : goal.bounds-columns-level
bounds-columns-level c = omega (arith, length-map c.args.part.now.levels tree, c.loop-level-test.true, c.len-level-end.ensures, c.requires.columns)

pub loop-level-preserved : goal.loop-level-preserved
loop-level-preserved c =
    let below : c.loop-level.level < length (map tree c.args.part.now.levels) = omega (arith, length-map c.args.part.now.levels tree, c.loop-level-test.true, c.len-level-end.ensures) in
    levels-more (plain_shape c.args.shape) (plain_part c.args.part.now) c.args.dim c.args.columns.now c.loop-level.level 0 c.loop-level.levels.items _ _ below c.requires.columns c.loop-level.invariant
    c.level_at-next.ensures c.in_ok-push.ensures.items

pub returns : goal.returns
returns c =
    levels-all (plain_shape c.args.shape) (plain_part c.args.part.now) c.args.dim c.args.columns.now c.loop-level.level c.loop-level.levels.items c.loop-level.invariant
    (omega (arith, length-map c.args.part.now.levels tree, c.loop-level-test.false, c.len-level-end.ensures))
