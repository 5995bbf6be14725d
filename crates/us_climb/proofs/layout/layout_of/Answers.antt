use Rattle.std.proofs.Common.{◌<◌, ◌≤◌, ◌+◌, ◌-◌, List, length, map, sym, subst, arith}
use Rattle.std.proofs.lemmas.List.{length-map}
use Rattle.us_expr.specs.Tree.{tree}
use Rattle.us_format.specs.Program.{plain_shape}
use Rattle.us_format.specs.Declaration.{ValueColumn}
use Rattle.us_judge.specs.Format.{part_at}
use Rattle.us_judge.specs.Views.{plain_part, declaration_of}
use Rattle.us_climb.specs.declared.layout.LevelLayout.{LevelLayout}
use Rattle.us_climb.specs.Layout.{IsInside}
use Rattle.us_climb.proofs.Placing.{place-inside}
use Rattle.us_climb.proofs.LevelsLaid.{IsLaid, laid-none, laid-next, own-values, all-laid}
use Rattle.us_climb.proofs.layout.layout_of.Goals as goal

pub loop-level-init : goal.loop-level-init
loop-level-init c = subst (λ (laid : List LevelLayout). IsLaid c.args.first (plain_shape c.args.shape) c.args.extents.now (plain_part c.args.part.now) 0 laid c.first_own-own.result) (sym c.new-levels.ensures) (laid-none c.args.first (plain_shape c.args.shape) c.args.extents.now (plain_part c.args.part.now) c.first_own-own.result c.first_own-own.ensures.is)

pub loop-level-preserved : goal.loop-level-preserved
loop-level-preserved c =
    let s = plain_shape c.args.shape in
    let p = plain_part c.args.part.now in
    let below : c.loop-level.level < length (map tree c.args.part.now.levels) = omega (arith, length-map c.args.part.now.levels tree, c.loop-level-test.true, c.len-level-end.ensures) in
    subst (λ (laid : List LevelLayout). IsLaid c.args.first (plain_shape c.args.shape) c.args.extents.now (plain_part c.args.part.now) (c.loop-level.level + 1) laid (c.loop-level.own + c.own_of_level-own.result)) (sym c.push.ensures.items)
    (laid-next c.args.first s c.args.extents.now p (part_at (declaration_of c.args.format.now) (c.args.number - 1)) c.loop-level.level c.loop-level.levels.items c.loop-level.own c.level_layout.result c.level_size-size.result c.own_of_level-own.result
    c.kind-kind.result c.requires.part.is c.loop-level.invariant below c.kind-kind.ensures c.level_layout.ensures c.level_size-size.ensures.value c.level_size-size.ensures.narrow
    c.own_of_level-own.ensures.count c.own_of_level-own.ensures.few)

pub column_place-values-requires-clause-own : goal.column_place-values-requires-clause-own
column_place-values-requires-clause-own c =
    let past : length (map tree c.args.part.now.levels) ≤ c.loop-level.level = omega (arith, length-map c.args.part.now.levels tree, c.loop-level-test.false, c.len-level-end.ensures) in
    own-values c.args.first (plain_shape c.args.shape) c.args.extents.now (plain_part c.args.part.now) c.loop-level.level c.loop-level.levels.items c.loop-level.own c.loop-level.invariant past

pub returns : goal.returns
returns c =
    let past : length (map tree c.args.part.now.levels) ≤ c.loop-level.level = omega (arith, length-map c.args.part.now.levels tree, c.loop-level-test.false, c.len-level-end.ensures) in
    record {
      levels = all-laid c.args.first (plain_shape c.args.shape) c.args.extents.now (plain_part c.args.part.now) c.loop-level.level c.loop-level.levels.items c.loop-level.own c.loop-level.invariant past;
      values = c.column_place-values.ensures;
      sound = c.loop-level.invariant.sound;
      inside = subst IsInside (sym c.column_place-values.ensures) (place-inside c.args.first (plain_part c.args.part.now) ValueColumn);
    }

pub kind-kind-requires-clause-part : goal.kind-kind-requires-clause-part
kind-kind-requires-clause-part c = omega (arith, c.requires.from_one, c.requires.part.there)
