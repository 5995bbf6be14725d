use Rattle.std.proofs.Common.{◌<◌, w64, length, map, ◌∙◌, arith}
use Rattle.std.proofs.lemmas.Int.{to_z-of_z}
use Rattle.std.proofs.lemmas.List.{length-map}
use Rattle.us_expr.specs.Tree.{tree}
use Rattle.us_expr.proofs.Bounds.{near_fits}
use Rattle.us_format.specs.Program.{plain_shape}
use Rattle.us_judge.specs.Views.{plain_part}
use Rattle.us_gen_parts_build.proofs.Making.{lows-none, lows-more, lows-all}
use Rattle.us_gen_parts_build.proofs.levels.lows_of.Goals as goal

pub loop-level-init : goal.loop-level-init
loop-level-init c = lows-none (plain_shape c.args.shape) (plain_part c.args.part.now) _ c.new-lows.ensures.items

pub low_at-low-requires-clause-level : goal.low_at-low-requires-clause-level
low_at-low-requires-clause-level c = omega (arith, length-map c.args.part.now.levels tree, c.loop-level-test.true, c.len-level-end.ensures)

pub loop-level-preserved : goal.loop-level-preserved
loop-level-preserved c =
    let below : c.loop-level.level < length (map tree c.args.part.now.levels) = omega (arith, length-map c.args.part.now.levels tree, c.loop-level-test.true, c.len-level-end.ensures) in
    lows-more (plain_shape c.args.shape) (plain_part c.args.part.now) c.loop-level.level c.loop-level.lows.items _ _ below c.loop-level.invariant
    (to_z-of_z w64 c.low_at-low.result (near_fits 64 c.low_at-low.result (omega arith) c.low_at-low.ensures.near) ∙ c.low_at-low.ensures.is) c.in_ok-push.ensures.items

pub returns : goal.returns
returns c =
    lows-all (plain_shape c.args.shape) (plain_part c.args.part.now) c.loop-level.level c.loop-level.lows.items c.loop-level.invariant
    (omega (arith, length-map c.args.part.now.levels tree, c.loop-level-test.false, c.len-level-end.ensures))
